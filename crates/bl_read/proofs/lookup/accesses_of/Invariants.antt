use Rattle.std.proofs.Common.{◌≡◌, ◌∷◌, take}
use Rattle.std.specs.Prelude.{map}
use Rattle.bl_work.specs.Meaning.{access_of}
use Rattle.bl_syntax.specs.RawBodies.{raw_access}
use Rattle.bl_read.proofs.lookup.accesses_of.Given as goal

-- the accesses so far
abbrev pub invariant-loop-access : goal.invariant-loop-access
invariant-loop-access l = l.accesses ≡ map (access_of l.names) (raw_access l.first ∷ map raw_access (take l.access-index l.more))
