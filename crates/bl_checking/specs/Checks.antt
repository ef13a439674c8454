-- How a run of `check` ends.
use Rattle.std.specs.Prelude.{◌≡◌, ◌⊎◌, ℕ, true, false, List, take}
use Rattle.std.specs.Io.KnownBytes.{Appends, Keeps}
use Rattle.bl_declare.specs.declared.fault.SetupFault.{SetupFault}
use Rattle.bl_rights_text.specs.Table.{table_text}
use Rattle.bl_setup.specs.FirstSetupFault.{FirstSetupFault}
use Rattle.bl_setup.specs.Grammar.{IsSetup}
use Rattle.bl_setup.specs.Setup.{Setup}
use Rattle.bl_spot.specs.Located.{IsLocated}
use Rattle.bl_spot.specs.declared.located.Located.{Located}
use Rattle.bl_status.specs.Runs.{HasTold}
use Rattle.bl_status.specs.declared.fault.ProgramFault.TheVariants.{NoMemory, Write}
use Rattle.bl_wire.specs.Watch.{Use}
use Rattle.bl_checking.specs.Telling.{fault_text}
use Rattle.bl_checking.specs.declared.check.Shown.{Shown}
use Rattle.bl_checking.specs.declared.check.Shown.TheVariants.{Whole, Cut, Starved}

-- the text tells the first fault of the bytes, with its place
pub record TellsFirst (name bytes text : List ℕ) : Type 0 where
  pub fault : SetupFault
  pub first : FirstSetupFault bytes fault
  pub place : Located
  pub located : IsLocated bytes fault place
  pub text_is : text ≡ fault_text name bytes fault place

-- the first fault of the bytes alone was told, unless standard error failed
pub record HasToldFirst (name bytes : List ℕ) (status : ℕ) (errors : Use) : Type 0 where
  pub text : List ℕ
  pub told : TellsFirst name bytes text
  pub status_is : status ≡ 3
  pub said : errors.failed ≡ false → Appends errors.before errors.after text

-- a first part of the table of a setup was written, whose file has this name
abbrev pub IsFrontOfTable : List ℕ → Setup → Use → Type 0
IsFrontOfTable name setup output = (much : ℕ) × Appends output.before output.after (take much (table_text name setup))

-- what became of the table of a setup
abbrev pub IsShown : List ℕ → Setup → Shown → Use → Type 0
IsShown name setup Whole output = Appends output.before output.after (table_text name setup)
IsShown name setup Cut output = (output.failed ≡ true) × IsFrontOfTable name setup output
IsShown name setup Starved output = IsFrontOfTable name setup output

-- the bytes are a setup, its table alone was written, and nothing was said
pub record HasShown (name bytes : List ℕ) (status : ℕ) (output errors : Use) : Type 0 where
  pub setup : Setup
  pub is : IsSetup bytes setup
  pub written : Appends output.before output.after (table_text name setup)
  pub status_is : status ≡ 0
  pub unsaid : Keeps errors.before errors.after

-- they are a setup, and of its table a first part alone was written, as the output failed, which was told
pub record HasCut (name bytes : List ℕ) (status : ℕ) (output errors : Use) : Type 0 where
  pub setup : Setup
  pub is : IsSetup bytes setup
  pub front : IsFrontOfTable name setup output
  pub failed : output.failed ≡ true
  pub told : HasTold Write status errors

-- the same, as a growth was refused
pub record HasStarved (name bytes : List ℕ) (status : ℕ) (output errors : Use) : Type 0 where
  pub setup : Setup
  pub is : IsSetup bytes setup
  pub front : IsFrontOfTable name setup output
  pub told : HasTold NoMemory status errors

-- nothing was written: the first fault of the bytes was told, or that a growth was refused
pub record HasRefused (name bytes : List ℕ) (status : ℕ) (output errors : Use) : Type 0 where
  pub unwritten : Keeps output.before output.after
  pub told : HasToldFirst name bytes status errors ⊎ HasTold NoMemory status errors

-- Own choice: the table of a setup is written, and of other bytes the first fault is told.
abbrev pub IsCheckRun : List ℕ → List ℕ → ℕ → Use → Use → Type 0
IsCheckRun name bytes status output errors =
    HasShown name bytes status output errors
    ⊎ (HasCut name bytes status output errors ⊎ (HasStarved name bytes status output errors ⊎ HasRefused name bytes status output errors))
