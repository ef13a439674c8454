use Rattle.std.proofs.Common.{◌++◌, List, ℕ, vec_len}
use Rattle.std.specs.Prelude.{All}
use Rattle.bl_hall.specs.Linked.{AreGathered, HasFamily}
use Rattle.bl_hall.proofs.walk.gather_families.Given as goal

abbrev pub invariant-lines : goal.invariant-lines
invariant-lines l =
    All (HasFamily l.links) l.lines.items
    × ((tail : List ℕ) → AreGathered l.links l.lines.items tail → AreGathered l.links l.initial.lines.items (l.places.items ++ tail))

abbrev pub decreases-lines : goal.decreases-lines
decreases-lines l = vec_len l.lines
