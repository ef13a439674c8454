use Rattle.std.proofs.Common.{map, take}
use Rattle.std.specs.Prelude.{All, Contains}
use Rattle.bl_syntax.specs.RawBodies.{raw_access}
use Rattle.bl_work.specs.WhenFaults.{documents_in}
use Rattle.bl_check.proofs.known.check_accesses_known.Given as goal

-- the names so far are known
abbrev pub invariant-loop-access : goal.invariant-loop-access
invariant-loop-access l = All (Contains l.names.documents) (documents_in (map raw_access (take l.access-index l.more)))
