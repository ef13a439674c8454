-- What is told of a closed trail that could not have its name, or may not have it on the disk.
use Rattle.std.specs.Prelude.{List, ℕ, [], ◌∷◌, ◌++◌, Result, Ok, Err, true}
use Rattle.bl_journal_files.specs.declared.name.NameFault.{NameFault}
use Rattle.bl_journal_files.specs.declared.name.NameFault.TheVariants.{Unnamed, Unsynced}
use Rattle.bl_journal_files.specs.declared.name.Named.{Named}
use Rattle.bl_status.specs.Message.{fault_line}
use Rattle.bl_trail_file.specs.Telling.{left_text, unkept_fault}
use Rattle.bl_status.specs.declared.fault.ProgramFault.{ProgramFault}
use Rattle.bl_status.specs.declared.fault.ProgramFault.TheVariants.{CannotWriteTrail}

-- what a fault at its name is to the run
abbrev pub name_fault : NameFault → ProgramFault
name_fault (Unnamed fault) = unkept_fault fault
name_fault Unsynced = CannotWriteTrail

-- the name that its file has
abbrev pub left_under : List ℕ → List ℕ → NameFault → List ℕ
left_under part trail (Unnamed fault) = part
left_under part trail Unsynced = trail

-- its fault, where it has one
abbrev pub naming_faults : Result Named NameFault → List ProgramFault
naming_faults (Ok named) = []
naming_faults (Err fault) = name_fault fault ∷ []

-- what is said of it: the fault, and in which file the trail is
abbrev pub naming_text : List ℕ → List ℕ → Result Named NameFault → List ℕ
naming_text part trail (Ok named) = []
naming_text part trail (Err fault) = fault_line (name_fault fault) ++ left_text true (left_under part trail fault)
