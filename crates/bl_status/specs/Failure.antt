-- What a fault of a setup or of a session is to the program, and what a run did that began no session.
use Rattle.std.specs.Prelude.{◌≡◌, ◌≢◌, ℕ, List, [], codes}
use Rattle.std.specs.Io.KnownBytes.{Keeps}
use Rattle.bl_setup.specs.Setup as setups
use Rattle.bl_setup.specs.Faults.{UnlessMemory}
use Rattle.bl_setup.specs.FirstSetupFault.{FirstSetupFault, IsReadAt}
use Rattle.bl_setup.specs.Grammar.{IsSetup}
use Rattle.bl_declare.specs.declared.fault.SetupFault.{SetupFault}
use Rattle.bl_declare.specs.declared.fault.SetupFaultKind.{SetupFaultKind}
use Rattle.bl_declare.specs.declared.fault.SetupFaultKind.TheVariants as kinds
use Rattle.bl_wire.specs.Watch.{Use}
use Rattle.bl_wire.specs.declared.fault.SessionFault.{SessionFault}
use Rattle.bl_wire.specs.declared.fault.SessionFault.TheVariants as failing
use Rattle.bl_status.specs.declared.fault.ProgramFault.{ProgramFault}
use Rattle.bl_status.specs.declared.fault.ProgramFault.TheVariants.{Setup, Read, Write, TooLong, NoMemory}

-- the words for a kind of fault; that of memory has none, and is told without a line
abbrev pub kind_words : SetupFaultKind → List ℕ
kind_words kinds.Syntax = codes "syntax"
kind_words kinds.Unknown = codes "unknown"
kind_words kinds.Repeated = codes "repeated"
kind_words kinds.CurrentAboveGreatest = codes "current above greatest"
kind_words kinds.TooMany = codes "too many"
kind_words kinds.Memory = []

-- Out of memory is told as such, and any other fault of a setup with its line and the words for its kind.
abbrev pub IsOfSetup : SetupFault → ProgramFault → Type 0
IsOfSetup of (Setup line kind) = (of.kind ≢ kinds.Memory) × (line ≡ of.line) × (kind.now ≡ kind_words of.kind)
IsOfSetup of NoMemory = of.kind ≡ kinds.Memory
IsOfSetup of _ = ⊥

-- Each fault of a session is told as what it is; nobody else speaks for a session with one worker.
abbrev pub IsOfSession : SessionFault → ProgramFault → Type 0
IsOfSession failing.Read fault = fault ≡ Read
IsOfSession failing.Write fault = fault ≡ Write
IsOfSession failing.TooLong fault = fault ≡ TooLong
IsOfSession failing.Memory fault = fault ≡ NoMemory
IsOfSession failing.Clash fault = ⊥

-- The text is no setup, unless memory was refused. The fault that is told is the first of the text, with its line and
-- kind; where memory was refused, that was at a line that is read, with the lines before it right.
pub record IsNoSetup (setup : List ℕ) (fault : ProgramFault) : Type 0 where
  pub of : SetupFault
  pub named : IsOfSetup of fault
  pub why : UnlessMemory of.kind ((begun : setups.Setup) → IsSetup setup begun → ⊥)
  pub earliest : UnlessMemory of.kind (FirstSetupFault setup of)
  pub refused : of.kind ≡ kinds.Memory → IsReadAt setup of.line

-- the same, and nothing was written
pub record IsNotRead (setup : List ℕ) (fault : ProgramFault) (output : Use) : Type 0 where
  pub unwritten : Keeps output.before output.after
  pub none : IsNoSetup setup fault

-- no session began, and nothing was read
pub record IsNotBegun (setup : List ℕ) (fault : ProgramFault) (input output : Use) : Type 0 where
  pub unread : Keeps input.before input.after
  pub unmet : IsNotRead setup fault output
