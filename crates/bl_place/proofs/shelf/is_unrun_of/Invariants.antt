use Rattle.std.proofs.Common.{◌≡◌, take}
use Rattle.bl_place.specs.Shelves.{contents_in}
use Rattle.bl_place.proofs.shelf.is_unrun_of.Given as goal

-- the contents so far are those that were lent
abbrev pub invariant-loop-i : goal.invariant-loop-i
invariant-loop-i l = take l.i l.unrun.inputs ≡ take l.i (contents_in l.shelves l.accesses)
