use Rattle.bl_serve.specs.Courses.{KeepsQuiet}
use Rattle.bl_serve.proofs.visit.Visitor.hear.Given as goal

-- the pass has after_quiet since it was what it was at first
abbrev pub invariant-loop : goal.invariant-loop
invariant-loop g l =
    (goal.iterator-loop g).can_next l.iterator' × (goal.iterator-loop g).is_finite l.iterator' × KeepsQuiet l.initial.pass l.pass
