use Rattle.std.proofs.Common.{◌≡◌, map, take}
use Rattle.std.specs.Prelude.{All, string_bytes}
use Rattle.bl_doors.specs.Places.{IsPlaceIn, names_in}
use Rattle.bl_doors.proofs.place.places_of.Given as goal

-- the first folders have their doors
abbrev pub invariant-loop-name : goal.invariant-loop-name
invariant-loop-name l = record {
  named : map (λ place. string_bytes place.name) l.places.items ≡ names_in (take l.name-index l.found);
  places : All (IsPlaceIn l.names l.folder) l.places.items;
}
