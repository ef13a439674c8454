-- How a run of `explain` ends.
use Rattle.std.specs.Prelude.{◌≡◌, ◌⊎◌, ℕ, Bool, true, false, List, take}
use Rattle.std.specs.Io.KnownBytes.{Appends, Keeps}
use Rattle.bl_setup.specs.Grammar.{IsSetup}
use Rattle.bl_setup.specs.Setup.{Setup}
use Rattle.bl_status.specs.Failure.{IsNotRead}
use Rattle.bl_status.specs.declared.fault.ProgramFault.{ProgramFault}
use Rattle.bl_status.specs.declared.fault.ProgramFault.TheVariants.{Write}
use Rattle.bl_wire.specs.Watch.{Use}
use Rattle.bl_question.specs.Asked.{IsUnasked}
use Rattle.bl_explaining.specs.Explained.{IsExplained}
use Rattle.bl_question.specs.Telling.{fault_text, status_by}
use Rattle.bl_question.specs.declared.fault.ExplainFault.{ExplainFault}
use Rattle.bl_question.specs.declared.fault.ExplainFault.TheVariants.{Program}
use Rattle.bl_question.specs.declared.question.Question.{Question}

-- own choice: 0 where what is asked is granted, and 1 where it is denied
abbrev pub status_for : Bool → ℕ
status_for true = 0
status_for false = 1

-- over the setup of these bytes what is asked was explained, and the text of that was written
pub record HasExplained (bytes : List ℕ) (q : Question) (status : ℕ) (output : Use) : Type 0 where
  pub setup : Setup
  pub is : IsSetup bytes setup
  pub text : List ℕ
  pub granted : Bool
  pub explained : IsExplained setup bytes q text granted
  pub written : Appends output.before output.after text
  pub status_is : status ≡ status_for granted

-- the bytes are no setup, and nothing was written
abbrev pub IsOfNoSetup : List ℕ → ExplainFault → Use → Type 0
IsOfNoSetup bytes fault output = (of : ProgramFault) × (fault ≡ Program of) × IsNotRead bytes of output

-- nothing was written, as something that is asked is not known there, or memory was refused
pub record IsNotAsked (bytes : List ℕ) (q : Question) (fault : ExplainFault) (output : Use) : Type 0 where
  pub setup : Setup
  pub is : IsSetup bytes setup
  pub why : IsUnasked setup.names q fault
  pub unwritten : Keeps output.before output.after

-- a first part of what is explained was written, as the output failed
pub record IsPartTold (bytes : List ℕ) (q : Question) (fault : ExplainFault) (output : Use) : Type 0 where
  pub setup : Setup
  pub is : IsSetup bytes setup
  pub text : List ℕ
  pub granted : Bool
  pub explained : IsExplained setup bytes q text granted
  pub much : ℕ
  pub written : Appends output.before output.after (take much text)
  pub why : fault ≡ Program Write
  pub failed : output.failed ≡ true

-- why nothing was explained, or not whole
abbrev pub IsUnexplained : List ℕ → Question → ExplainFault → Use → Type 0
IsUnexplained bytes q fault output = IsOfNoSetup bytes fault output ⊎ (IsNotAsked bytes q fault output ⊎ IsPartTold bytes q fault output)

-- the status is that of this fault, which alone was said, unless standard error failed
pub record HasToldFault (q : Question) (fault : ExplainFault) (status : ℕ) (errors : Use) : Type 0 where
  pub status_is : status ≡ status_by fault
  pub said : errors.failed ≡ false → Appends errors.before errors.after (fault_text q fault)

-- what is asked was explained, and nothing was said; or the run ended with a fault and told it
abbrev pub IsExplainRun : List ℕ → Question → ℕ → Use → Use → Type 0
IsExplainRun bytes q status output errors =
    (HasExplained bytes q status output × Keeps errors.before errors.after)
    ⊎ ((fault : ExplainFault) × HasToldFault q fault status errors × IsUnexplained bytes q fault output)
