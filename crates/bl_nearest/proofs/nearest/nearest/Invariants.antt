use Rattle.bl_nearest.proofs.Looking.{Looked}
use Rattle.bl_nearest.proofs.nearest.nearest.Given as goal

-- the nearest of the names so far was found
abbrev pub invariant-loop-name : goal.invariant-loop-name
invariant-loop-name l = Looked l.names l.word l.name-index l.least l.found
