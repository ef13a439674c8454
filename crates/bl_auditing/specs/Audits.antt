-- What the command `audit` tells, and how it ends.
use Rattle.std.specs.Prelude.{◌≡◌, ◌⊎◌, ◌-◌, ◌++◌, ℕ, true, List, [], Option, codes, decimal, take}
use Rattle.std.specs.Io.KnownBytes.{Appends, Keeps}
use Rattle.bl_chain.specs.Telling.{audit_status, chain_text}
use Rattle.bl_chain.specs.declared.fault.ChainFault.{ChainFault}
use Rattle.bl_chain_audit.specs.Closed.{IsAudited}
use Rattle.bl_chain_audit.specs.Noted.{sum_text}
use Rattle.bl_chain_audit.specs.Untrue.{IsUntrue}
use Rattle.bl_chain_audit.specs.declared.audit.Audited.{Audited}
use Rattle.bl_chain_audit.specs.declared.journal.FoundJournal.{FoundJournal}
use Rattle.bl_chain_audit.specs.declared.journal.FoundJournal.TheVariants.{Absent, Open, Closed}
use Rattle.bl_chain_audit.specs.declared.noted.NotedRun.{NotedRun}
use Rattle.bl_folder.specs.Standing.{Contents}
use Rattle.bl_setup.specs.Setup.{Setup}
use Rattle.bl_status.specs.Message.{fault_line}
use Rattle.bl_status.specs.Status.{status_of}
use Rattle.bl_status.specs.declared.fault.ProgramFault.{ProgramFault}
use Rattle.bl_status.specs.declared.fault.ProgramFault.TheVariants.{NoMemory, Write}
use Rattle.bl_wire.specs.Watch.{EndState, Puts, Use}

-- own choice: what is told where so many runs are true, and the last of them left this setup
abbrev pub accepted_words : ℕ → Setup → List ℕ
accepted_words runs left = codes "accepted " ++ (decimal runs ++ (codes " runs, next " ++ (sum_text left ++ codes "\n")))

-- own choice: what is told of the run behind them by its journal
abbrev pub journal_words : ℕ → FoundJournal → List ℕ
journal_words run Absent = []
journal_words run (Open events) = codes "run " ++ (decimal run ++ (codes " open, " ++ (decimal events ++ codes " events\n")))
journal_words run Closed = codes "run " ++ (decimal run ++ codes " closed, not named\n")

-- of a chain that is true
abbrev pub audited_text : Audited → List ℕ
audited_text audited = accepted_words (audited.end - audited.first) audited.next ++ journal_words audited.end audited.journal

-- the closed runs are true, and that is told
pub record IsAccepted (there : Contents) (noted : Option NotedRun) (status : ℕ) (output : Use) : Type 0 where
  pub audited : Audited
  pub are : IsAudited there noted audited
  pub well : status ≡ 0
  pub told : Appends output.before output.after (audited_text audited)

-- they are not, and the first fault is told
pub record IsRejected (there : Contents) (noted : Option NotedRun) (name : List ℕ) (status : ℕ) (output : Use) (before after : EndState) : Type 0 where
  pub fault : ChainFault
  pub untrue : IsUntrue there noted fault
  pub status_is : status ≡ audit_status fault
  pub said : Puts (chain_text name fault) before after
  pub quiet : Keeps output.before output.after

-- They are, and no memory was there for the checksum; or the output failed, with a first part written.
abbrev pub IsUntold : Contents → Option NotedRun → ℕ → Use → EndState → EndState → Type 0
IsUntold there noted status output before after = (audited : Audited) × IsAudited there noted audited × ((fault : ProgramFault)
    × ((fault ≡ NoMemory) ⊎ (fault ≡ Write)) × (status ≡ status_of fault) × Puts (fault_line fault) before after
    × ((n : ℕ) × Appends output.before output.after (take n (audited_text audited))))

-- one of these
abbrev pub IsAuditRun : Contents → Option NotedRun → (name : List ℕ) → ℕ → Use → EndState → EndState → Type 0
IsAuditRun there noted name status output before after = IsAccepted there noted status output
    ⊎ (IsRejected there noted name status output before after ⊎ IsUntold there noted status output before after)
