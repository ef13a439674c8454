use Rattle.std.proofs.Common.{length}
use Rattle.bl_walk.specs.Placed.{TakesAccesses}
use Rattle.bl_walk.proofs.plain.accesses_of.Given as goal

-- the accesses so far were taken
abbrev pub invariant-loop-unread : goal.invariant-loop-unread
invariant-loop-unread l = TakesAccesses l.names l.fn.unread.bytes.now l.unread.bytes.now l.accesses

abbrev pub decreases-loop-unread : goal.decreases-loop-unread
decreases-loop-unread l = length l.unread.bytes.now
