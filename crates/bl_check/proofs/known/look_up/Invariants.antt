use Rattle.std.proofs.Common.{◌≡◌, ◌∷◌, map, take}
use Rattle.std.specs.Prelude.{All, Contains}
use Rattle.bl_syntax.specs.RawBodies.{raw_access}
use Rattle.bl_work.specs.Meaning.{access_of}
use Rattle.bl_work.specs.WhenFaults.{documents_in}
use Rattle.bl_check.proofs.known.look_up.Given as goal

-- the names so far are known, and their accesses looked up
abbrev pub invariant-loop-access : goal.invariant-loop-access
invariant-loop-access l =
    All (Contains l.names.documents) (documents_in (map raw_access (take l.access-index l.more)))
    × (l.accesses ≡ map (access_of l.names) (raw_access l.first ∷ map raw_access (take l.access-index l.more)))
