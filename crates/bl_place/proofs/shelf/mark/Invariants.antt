use Rattle.std.proofs.Common.{◌≡◌, drop}
use Rattle.bl_place.specs.Shelves.{marked}
use Rattle.bl_place.proofs.shelf.mark.Given as goal

abbrev pub invariant-loop-access : goal.invariant-loop-access
invariant-loop-access l = marked l.shelves (drop l.access-index l.accesses) ≡ marked l.initial.shelves l.accesses
