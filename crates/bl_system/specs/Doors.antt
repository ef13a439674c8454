-- What is said of doors on standard error.
use Rattle.std.specs.Prelude.{ℕ, List, ◌∷◌, [], ◌++◌, codes, string_bytes}
use Rattle.bl_doors.specs.declared.fault.DoorFault.{DoorFault}
use Rattle.bl_doors.specs.declared.fault.DoorFault.TheVariants.{NoDoor, NoSuchDoor, CannotListen, Memory}
use Rattle.bl_status.specs.declared.fault.ProgramFault.TheVariants as faults
use Rattle.bl_status.specs.Message.{fault_line}
use Rattle.bl_status.specs.Places.{door_line}
use Rattle.bl_status.specs.Status.{status_of}

-- own choice: a folder has this name, and no subject has it
abbrev pub stranger_line : List ℕ → List ℕ
stranger_line name = codes "no such door " ++ (name ++ 10 ∷ [])

-- own choice: what is said of a fault, on a line of its own; of a door that cannot be listened at its name, on the next. That of the
-- system and that of memory have the program's words.
abbrev pub fault_text : DoorFault → List ℕ
fault_text NoDoor = codes "no door\n"
fault_text (NoSuchDoor name) = stranger_line (string_bytes name)
fault_text (CannotListen name) = fault_line faults.CannotListen ++ door_line (string_bytes name)
fault_text Memory = fault_line faults.NoMemory

-- the status of a run that a fault ends: 4 when out of memory, and 3 for anything else
abbrev pub status_by : DoorFault → ℕ
status_by NoDoor = 3
status_by (NoSuchDoor name) = 3
status_by (CannotListen name) = status_of faults.CannotListen
status_by Memory = status_of faults.NoMemory

-- own choice: what is said of the door of this name where everybody may enter its folder
abbrev pub warning_line : List ℕ → List ℕ
warning_line name = codes "door " ++ name ++ codes ": open to all\n"
