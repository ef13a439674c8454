use Rattle.std.proofs.Common.{length}
use Rattle.bl_spot.proofs.Parting.{Passed}
use Rattle.bl_spot.proofs.cut.part.Given as goal

-- the lines before the next one are passed
abbrev pub invariant-loop-next : goal.invariant-loop-next
invariant-loop-next l = Passed l.bytes l.rest l.next l.read l.number

abbrev pub decreases-loop-next : goal.decreases-loop-next
decreases-loop-next l = length l.rest
