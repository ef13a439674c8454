use Rattle.bl_serve.specs.Courses.{KeepsQuiet}
use Rattle.bl_serve.proofs.visit.Visitor.run.Given as goal

-- the pass has after_quiet since it was what it was at first
abbrev pub invariant-loop-n : goal.invariant-loop-n
invariant-loop-n g l = KeepsQuiet l.initial.pass l.pass
