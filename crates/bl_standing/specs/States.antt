-- How a run of `state` ends.
use Rattle.std.specs.Prelude.{◌≡◌, ◌⊎◌, ℕ, true, false, List, ◌++◌}
use Rattle.std.specs.Io.KnownBytes.{Appends, Keeps}
use Rattle.bl_setup.specs.Grammar.{IsSetup}
use Rattle.bl_setup.specs.Setup.{Setup}
use Rattle.bl_state.specs.Texts.{setup_text}
use Rattle.bl_status.specs.Failure.{IsNotRead}
use Rattle.bl_status.specs.declared.fault.ProgramFault.{ProgramFault}
use Rattle.bl_status.specs.declared.fault.ProgramFault.TheVariants.{NoMemory, Write}
use Rattle.bl_wire.specs.Watch.{Use}
use Rattle.bl_standing.specs.Standing.{HasNothingToWrite, StandsAtEnd}
use Rattle.bl_standing.specs.Telling.{fault_text, status_by}
use Rattle.bl_standing.specs.declared.fault.StateFault.{StateFault}
use Rattle.bl_standing.specs.declared.fault.StateFault.TheVariants.{Program}

-- what stands at the end of the trail was written, as the text of a setup file that reads as just that setup
pub record HasWrittenSetup (setup trail : List ℕ) (output : Use) : Type 0 where
  pub begun : Setup
  pub is : IsSetup setup begun
  pub left : Setup
  pub stands : StandsAtEnd begun trail left
  pub reads : IsSetup (setup_text left) left
  pub written : Appends output.before output.after (setup_text left)

-- a first part of a text was written, as a growth was refused or the output failed
pub record HasPutPart (text : List ℕ) (fault : StateFault) (output : Use) : Type 0 where
  pub front : List ℕ
  pub rest : List ℕ
  pub split : text ≡ front ++ rest
  pub written : Appends output.before output.after front
  pub why : (fault ≡ Program NoMemory) ⊎ ((fault ≡ Program Write) × (output.failed ≡ true))

-- nothing was written, as there is nothing to write
pub record IsNotWritten (setup trail : List ℕ) (fault : StateFault) (output : Use) : Type 0 where
  pub begun : Setup
  pub is : IsSetup setup begun
  pub why : HasNothingToWrite begun trail fault
  pub unwritten : Keeps output.before output.after

-- what stands was not written whole
pub record IsPartWritten (setup trail : List ℕ) (fault : StateFault) (output : Use) : Type 0 where
  pub begun : Setup
  pub is : IsSetup setup begun
  pub left : Setup
  pub stands : StandsAtEnd begun trail left
  pub part : HasPutPart (setup_text left) fault output

-- the bytes of the setup are none, and nothing was written
abbrev pub IsOfNoSetup : List ℕ → StateFault → Use → Type 0
IsOfNoSetup setup fault output = (of : ProgramFault) × (fault ≡ Program of) × IsNotRead setup of output

-- why what stands was not written, or not whole
abbrev pub IsUnwritten : List ℕ → List ℕ → StateFault → Use → Type 0
IsUnwritten setup trail fault output =
    IsOfNoSetup setup fault output ⊎ (IsNotWritten setup trail fault output ⊎ IsPartWritten setup trail fault output)

-- the status is that of this fault, which alone was said, unless standard error failed
pub record HasToldState (fault : StateFault) (status : ℕ) (errors : Use) : Type 0 where
  pub status_is : status ≡ status_by fault
  pub said : errors.failed ≡ false → Appends errors.before errors.after (fault_text fault)

-- what stands was written, and nothing was said; or the run ended with a fault and told it
abbrev pub IsStateRun : List ℕ → List ℕ → ℕ → Use → Use → Type 0
IsStateRun setup trail status output errors =
    ((status ≡ 0) × HasWrittenSetup setup trail output × Keeps errors.before errors.after)
    ⊎ ((fault : StateFault) × HasToldState fault status errors × IsUnwritten setup trail fault output)
