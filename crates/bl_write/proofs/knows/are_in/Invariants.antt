use Rattle.std.proofs.Common.{take}
use Rattle.bl_write.specs.There.{AreIn}
use Rattle.bl_write.proofs.knows.are_in.Given as goal

-- the documents so far are there
abbrev pub invariant-loop-access : goal.invariant-loop-access
invariant-loop-access l = AreIn l.documents (take l.access-index l.accesses)
