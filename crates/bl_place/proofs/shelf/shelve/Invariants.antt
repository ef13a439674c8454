use Rattle.std.proofs.Common.{◌≡◌, ◌++◌, drop}
use Rattle.std.specs.Prelude.{map}
use Rattle.bl_place.specs.Shelves.{new_shelf}
use Rattle.bl_place.proofs.shelf.shelve.Given as goal

abbrev pub invariant-loop-content : goal.invariant-loop-content
invariant-loop-content l = l.shelves.items ++ map new_shelf (drop l.content-index l.contents) ≡ map new_shelf l.contents
