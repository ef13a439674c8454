-- The doors of a folder.
use Rattle.std.specs.Prelude.{◌≡◌, ℕ, List, [], All, map}
use Rattle.bl_work.specs.Names.{KnownNames}
use Rattle.bl_doors.specs.Places.{IsPlaceIn}
use Rattle.bl_doors.specs.declared.door.Door.{Door}
use Rattle.bl_doors.specs.declared.doors.Doors.{Doors}
use Rattle.bl_doors.specs.declared.place.Place.{Place}

-- where the doors stand
abbrev pub stand_at : Doors → List Place
stand_at doors = map (λ (door : Door). door.place) doors.doors.items

-- each door stands in the folder that has the name of its subject, and there is one at least
pub record AreDoors (names : KnownNames) (folder : List ℕ) (doors : Doors) : Type 0 where
  pub places : All (IsPlaceIn names folder) (stand_at doors)
  pub some : stand_at doors ≡ [] → ⊥
