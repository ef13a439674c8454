-- How a run of `explain` of an event ends.
use Rattle.std.specs.Prelude.{◌≡◌, ◌⊎◌, ℕ, Bool, true, false, List, take}
use Rattle.std.specs.Io.KnownBytes.{Appends, Keeps}
use Rattle.bl_setup.specs.Grammar.{IsSetup}
use Rattle.bl_setup.specs.Setup.{Setup}
use Rattle.bl_status.specs.Failure.{IsNotRead}
use Rattle.bl_status.specs.declared.fault.ProgramFault.{ProgramFault}
use Rattle.bl_status.specs.declared.fault.ProgramFault.TheVariants as program
use Rattle.bl_wire.specs.Watch.{Use}
use Rattle.bl_explaining.specs.Explains.{status_for}
use Rattle.bl_explaining_event.specs.Decisions.{HasNoDecision, IsDecision}
use Rattle.bl_explaining_event.specs.Telling.{fault_text, status_by}
use Rattle.bl_explaining_event.specs.declared.fault.EventFault.{EventFault}
use Rattle.bl_explaining_event.specs.declared.fault.EventFault.TheVariants.{Program}
use Rattle.bl_explaining_event.specs.declared.question.EventQuestion.{EventQuestion}

-- over the setup of these bytes the decision at the event was explained, and the text of that was written
pub record HasExplained (bytes trail : List ℕ) (q : EventQuestion) (status : ℕ) (output : Use) : Type 0 where
  pub setup : Setup
  pub is : IsSetup bytes setup
  pub text : List ℕ
  pub granted : Bool
  pub decision : IsDecision setup bytes trail q.path.now q.event text granted
  pub written : Appends output.before output.after text
  pub status_is : status ≡ status_for granted

-- the bytes are no setup, and nothing was written
abbrev pub IsOfNoSetup : List ℕ → EventFault → Use → Type 0
IsOfNoSetup bytes fault output = (of : ProgramFault) × (fault ≡ Program of) × IsNotRead bytes of output

-- nothing was written, as there is no decision to tell, or memory was refused
pub record IsNotTold (bytes trail : List ℕ) (q : EventQuestion) (fault : EventFault) (output : Use) : Type 0 where
  pub setup : Setup
  pub is : IsSetup bytes setup
  pub why : HasNoDecision setup trail q.event fault
  pub unwritten : Keeps output.before output.after

-- a first part of what is explained was written, as the output failed
pub record IsPartTold (bytes trail : List ℕ) (q : EventQuestion) (fault : EventFault) (output : Use) : Type 0 where
  pub setup : Setup
  pub is : IsSetup bytes setup
  pub text : List ℕ
  pub granted : Bool
  pub decision : IsDecision setup bytes trail q.path.now q.event text granted
  pub much : ℕ
  pub written : Appends output.before output.after (take much text)
  pub why : fault ≡ Program program.Write
  pub failed : output.failed ≡ true

-- why nothing was explained, or not whole
abbrev pub IsUnexplained : List ℕ → List ℕ → EventQuestion → EventFault → Use → Type 0
IsUnexplained bytes trail q fault output =
    IsOfNoSetup bytes fault output ⊎ (IsNotTold bytes trail q fault output ⊎ IsPartTold bytes trail q fault output)

-- the status is that of this fault, which alone was said, unless standard error failed
pub record HasToldFault (fault : EventFault) (status : ℕ) (errors : Use) : Type 0 where
  pub status_is : status ≡ status_by fault
  pub said : errors.failed ≡ false → Appends errors.before errors.after (fault_text fault)

-- the decision was explained, and nothing was said; or the run ended with a fault and told it
abbrev pub IsEventRun : List ℕ → List ℕ → EventQuestion → ℕ → Use → Use → Type 0
IsEventRun bytes trail q status output errors =
    (HasExplained bytes trail q status output × Keeps errors.before errors.after)
    ⊎ ((fault : EventFault) × HasToldFault fault status errors × IsUnexplained bytes trail q fault output)
