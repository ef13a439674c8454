use Rattle.std.proofs.Common.{length}
use Rattle.bl_spot.proofs.Failing.{Looked}
use Rattle.bl_spot.proofs.asked.first_repeated.Given as goal

-- no name so far stood before
abbrev pub invariant-loop-rest : goal.invariant-loop-rest
invariant-loop-rest l = Looked l.token l.named l.names l.rest l.count

abbrev pub decreases-loop-rest : goal.decreases-loop-rest
decreases-loop-rest l = length l.rest
