use Rattle.std.proofs.Common.{◌≤◌}
use Rattle.bl_queue.proofs.Enter.{IsEntering}
use Rattle.bl_queue.proofs.cowns.Cowns.enter.Given as goal

abbrev pub invariant-loop-claim : goal.invariant-loop-claim
invariant-loop-claim l = IsEntering l.fn.self l.claims l.claim-index l.waits l.self × (l.waits ≤ l.claim-index)
