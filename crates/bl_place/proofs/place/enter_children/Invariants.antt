use Rattle.std.proofs.Common.{◌≡◌, ◌+◌, ◌++◌, drop, vec_len}
use Rattle.std.specs.Vec.{vec_capacity}
use Rattle.bl_place.specs.Places.{child_places}
use Rattle.bl_place.proofs.place.enter_children.Given as goal

abbrev pub invariant-loop-index : goal.invariant-loop-index
invariant-loop-index l =
    (l.places.items ++ child_places l.siblings (l.which + 1) (drop l.index-index l.spawned) ≡ l.initial.places.items ++ child_places l.siblings 1 l.spawned)
    × (vec_capacity l.places ≡ vec_capacity l.initial.places)
    × (l.which ≡ l.index-index)
    × (vec_len l.places ≡ vec_len l.initial.places + l.which)
