-- How a run of `explain` over a trail ends.
use Rattle.std.specs.Prelude.{◌≡◌, ◌⊎◌, ℕ, Bool, true, false, List, take}
use Rattle.std.specs.Io.KnownBytes.{Appends, Keeps}
use Rattle.bl_setup.specs.Grammar.{IsSetup}
use Rattle.bl_setup.specs.Setup.{Setup}
use Rattle.bl_status.specs.Failure.{IsNotRead}
use Rattle.bl_status.specs.declared.fault.ProgramFault.{ProgramFault}
use Rattle.bl_status.specs.declared.fault.ProgramFault.TheVariants as program
use Rattle.bl_wire.specs.Watch.{Use}
use Rattle.bl_explaining.specs.Explains.{status_for}
use Rattle.bl_explaining_trail.specs.Moments.{IsExplainedThere, IsUntold}
use Rattle.bl_explaining_trail.specs.Telling.{asked_status_by, asked_text}
use Rattle.bl_explaining_trail.specs.declared.fault.AskedFault.{AskedFault}
use Rattle.bl_explaining_trail.specs.declared.fault.AskedFault.TheVariants.{Trail}
use Rattle.bl_explaining_trail.specs.declared.fault.TrailFault.TheVariants.{Program}
use Rattle.bl_explaining_trail.specs.declared.question.TrailQuestion.{TrailQuestion}

-- over the setup of these bytes what is asked was explained where the trail leads, and the text of that was written
pub record HasExplained (bytes trail : List ℕ) (q : TrailQuestion) (status : ℕ) (output : Use) : Type 0 where
  pub setup : Setup
  pub is : IsSetup bytes setup
  pub text : List ℕ
  pub granted : Bool
  pub explained : IsExplainedThere setup bytes trail q.at q.question text granted
  pub written : Appends output.before output.after text
  pub status_is : status ≡ status_for granted

-- the bytes are no setup, and nothing was written
abbrev pub IsOfNoSetup : List ℕ → AskedFault → Use → Type 0
IsOfNoSetup bytes fault output = (of : ProgramFault) × (fault ≡ Trail (Program of)) × IsNotRead bytes of output

-- nothing was written, as the trail does not lead there, something that is asked is not known there, or memory was refused
pub record IsNotTold (bytes trail : List ℕ) (q : TrailQuestion) (fault : AskedFault) (output : Use) : Type 0 where
  pub setup : Setup
  pub is : IsSetup bytes setup
  pub why : IsUntold setup trail q fault
  pub unwritten : Keeps output.before output.after

-- a first part of what is explained was written, as the output failed
pub record IsPartTold (bytes trail : List ℕ) (q : TrailQuestion) (fault : AskedFault) (output : Use) : Type 0 where
  pub setup : Setup
  pub is : IsSetup bytes setup
  pub text : List ℕ
  pub granted : Bool
  pub explained : IsExplainedThere setup bytes trail q.at q.question text granted
  pub much : ℕ
  pub written : Appends output.before output.after (take much text)
  pub why : fault ≡ Trail (Program program.Write)
  pub failed : output.failed ≡ true

-- why nothing was explained, or not whole
abbrev pub IsUnexplained : List ℕ → List ℕ → TrailQuestion → AskedFault → Use → Type 0
IsUnexplained bytes trail q fault output =
    IsOfNoSetup bytes fault output ⊎ (IsNotTold bytes trail q fault output ⊎ IsPartTold bytes trail q fault output)

-- the status is that of this fault, which alone was said, unless standard error failed
pub record HasToldFault (q : TrailQuestion) (fault : AskedFault) (status : ℕ) (errors : Use) : Type 0 where
  pub status_is : status ≡ asked_status_by fault
  pub said : errors.failed ≡ false → Appends errors.before errors.after (asked_text q.question fault)

-- what is asked was explained, and nothing was said; or the run ended with a fault and told it
abbrev pub IsTrailRun : List ℕ → List ℕ → TrailQuestion → ℕ → Use → Use → Type 0
IsTrailRun bytes trail q status output errors =
    (HasExplained bytes trail q status output × Keeps errors.before errors.after)
    ⊎ ((fault : AskedFault) × HasToldFault q fault status errors × IsUnexplained bytes trail q fault output)
