use Rattle.std.proofs.Common.{take}
use Rattle.bl_write.specs.There.{AreThere}
use Rattle.bl_write.proofs.knows.are_there.Given as goal

-- the documents of the behaviours so far are there
abbrev pub invariant-loop-index : goal.invariant-loop-index
invariant-loop-index l = AreThere l.names (take l.index l.script)
