-- What stands beside the journal that a run left.
use Rattle.std.specs.Prelude.{◌≡◌, ◌≢◌, ℕ, List, ◌∷◌, [], ◌++◌, Option, Some, None}
use Rattle.bl_disk.specs.File.{Begins}
use Rattle.bl_file.specs.Outlived.{outlives}
use Rattle.bl_file.specs.declared.kept.Keeping.{Keeping}
use Rattle.bl_file.specs.declared.open.OpenFault.{OpenFault}
use Rattle.bl_file.specs.declared.open.OpenFault.TheVariants as opening
use Rattle.bl_status.specs.declared.fault.ProgramFault.{ProgramFault}
use Rattle.bl_status.specs.declared.fault.ProgramFault.TheVariants.{CannotReadTrail, NoMemory, OtherSetup}
use Rattle.bl_journal_files.specs.declared.setup.SetupKept.{SetupKept}

-- the bytes of the setup stand there, and outlive this
abbrev pub IsSetupKept : Option SetupKept → Keeping → Type 0
IsSetupKept None keeping = ⊥
IsSetupKept (Some setup) keeping = outlives setup.kept ≡ keeping

-- own choice: Of a setup a first part stands there, which ends within a line: a run was cut off while it was written.
pub record IsTornCopy (setup copy : List ℕ) : Type 0 where
  pub begins : Begins copy setup
  pub part : copy ≢ setup
  pub within : (lines : List ℕ) → copy ≢ lines ++ 10 ∷ []

-- what is told of a file that is to have the bytes of a setup, and cannot be opened
abbrev pub setup_fault : OpenFault → ProgramFault
setup_fault opening.Missing = OtherSetup
setup_fault opening.Memory = NoMemory
setup_fault opening.Taken = CannotReadTrail
setup_fault opening.InUse = CannotReadTrail
setup_fault opening.Refused = CannotReadTrail
