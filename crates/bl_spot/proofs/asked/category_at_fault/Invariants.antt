use Rattle.std.proofs.Common.{length}
use Rattle.bl_spot.proofs.Failing.{Passed}
use Rattle.bl_spot.proofs.asked.category_at_fault.Given as goal

-- no category so far is at fault
abbrev pub invariant-loop-rest : goal.invariant-loop-rest
invariant-loop-rest l = Passed l.scheme l.token l.names l.rest l.count

abbrev pub decreases-loop-rest : goal.decreases-loop-rest
decreases-loop-rest l = length l.rest
