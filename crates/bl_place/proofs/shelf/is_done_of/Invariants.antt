use Rattle.std.proofs.Common.{◌≡◌, take}
use Rattle.bl_place.specs.Shelves.{contents_in}
use Rattle.bl_place.proofs.shelf.is_done_of.Given as goal

-- the contents so far are those that were lent
abbrev pub invariant-loop-i : goal.invariant-loop-i
invariant-loop-i l = take l.i l.done.inputs ≡ take l.i (contents_in l.shelves l.accesses)
