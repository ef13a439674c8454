use Rattle.std.proofs.Common.{◌≡◌}
use Rattle.bl_host.proofs.context.ThreadContext.attend.Given as goal

-- it was given the pass
abbrev pub invariant-loop : goal.invariant-loop
invariant-loop g l =
    (goal.iterator-loop g).can_next l.iterator' × (goal.iterator-loop g).is_finite l.iterator' × (l.attendant.rounds.first ≡ l.fn.pass)
