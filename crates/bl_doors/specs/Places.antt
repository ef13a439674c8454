-- Where doors stand, and for whom who comes in by them speaks.
use Rattle.std.specs.Prelude.{◌≡◌, ℕ, List, [], ◌++◌, All, Contains, Option, String, codes, map, string_bytes}
use Rattle.bl_name.specs.Table.{place_of}
use Rattle.bl_work.specs.Names.{KnownNames}
use Rattle.bl_doors.specs.declared.fault.DoorFault.{DoorFault}
use Rattle.bl_doors.specs.declared.fault.DoorFault.TheVariants.{NoDoor, NoSuchDoor, CannotListen, Memory}
use Rattle.bl_doors.specs.declared.place.Place.{Place}

-- own choice: the socket of a door stands in a folder of its own
abbrev pub door_path : List ℕ → List ℕ → List ℕ
door_path folder name = folder ++ codes "/" ++ name ++ codes "/door"

-- the subject of a door is the one whose name its folder has
abbrev pub subject_of_door : KnownNames → Place → Option ℕ
subject_of_door names place = place_of (string_bytes place.name) names.subjects

-- the door stands in the folder that has the name of its subject
pub record IsPlaceIn (names : KnownNames) (folder : List ℕ) (place : Place) : Type 0 where
  pub known : Contains names.subjects (string_bytes place.name)
  pub path : string_bytes place.path ≡ door_path folder (string_bytes place.name)

-- the folders have a door each, in their order, and there is one at least
pub record ArePlaces (names : KnownNames) (folder : List ℕ) (found : List (List ℕ)) (places : List Place) : Type 0 where
  pub named : map (λ (place : Place). string_bytes place.name) places ≡ found
  pub there : All (IsPlaceIn names folder) places
  pub some : found ≡ [] → ⊥

-- the names of folders
abbrev pub names_in : {Z : Type 0} → List (String Z) → List (List ℕ)
names_in found = map string_bytes found

-- why the folders have no doors
abbrev pub IsPlaceFault : KnownNames → List (List ℕ) → DoorFault → Type 0
IsPlaceFault names found NoDoor = found ≡ []
IsPlaceFault names found (NoSuchDoor name) =
    Contains found (string_bytes name) × (Contains names.subjects (string_bytes name) → ⊥)
IsPlaceFault names found (CannotListen name) = ⊥
IsPlaceFault names found Memory = Unit {0}
