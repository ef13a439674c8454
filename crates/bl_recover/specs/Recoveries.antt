-- How a recovery ends.
use Rattle.std.specs.Prelude.{◌≡◌, ℕ, true, List, [], ◌++◌, String, codes, take}
use Rattle.std.specs.Global.{Global}
use Rattle.std.specs.Io.KnownBytes.{Appends, Keeps}
use Rattle.bl_disk.specs.File.{File}
use Rattle.bl_record.specs.declared.fault.RecoverFault.{RecoverFault}
use Rattle.bl_record.specs.Recovering.{IsClosed, IsNotRecovered}
use Rattle.bl_setup.specs.Setup.{Setup}
use Rattle.bl_wire.specs.Watch.{EndState, Puts, Use}
use Rattle.bl_status.specs.Message.{fault_line}
use Rattle.bl_status.specs.Status.{status_of}
use Rattle.bl_trail_file.specs.Telling.{left_text, unkept_fault}
use Rattle.bl_status.specs.declared.fault.ProgramFault.TheVariants.{Write}
use Rattle.bl_status.specs.Named.{fault_at}
use Rattle.bl_status.specs.Places.{named_text}
use Rattle.bl_journal_files.specs.Telling.{cut_line, recover_fault}
use Rattle.bl_recover.specs.Telling.{recovered_line}
use Rattle.bl_recover.specs.declared.recover.RecoveryEnd.{RecoveryEnd}
use Rattle.bl_recover.specs.declared.recover.RecoveryEnd.TheVariants.{Recovered, Untold, Unnamed, Refused}

-- What was made of a file with this text, which has the name `part`: it is closed, with so many events, and so many
-- bytes of the text were cut off; or the recovery was refused.
abbrev pub HasEnded : Setup → List ℕ → String Global → RecoveryEnd → File → Type 0
HasEnded setup text part (Recovered events cut named) file = IsClosed setup text events cut file
HasEnded setup text part (Untold events cut named) file = IsClosed setup text events cut file
HasEnded setup text part (Unnamed events cut fault) file = IsClosed setup text events cut file
HasEnded setup text part (Refused named) file =
    (of : RecoverFault) × (named ≡ fault_at (recover_fault of) part) × IsNotRecovered setup text of

-- a trail was closed with so many events, and so many bytes were cut off
abbrev pub IsOfClosed : ℕ → ℕ → RecoveryEnd → Type 0
IsOfClosed events cut (Recovered n m named) = (n ≡ events) × (m ≡ cut)
IsOfClosed events cut (Untold n m named) = (n ≡ events) × (m ≡ cut)
IsOfClosed events cut (Unnamed n m fault) = (n ≡ events) × (m ≡ cut)
IsOfClosed events cut (Refused fault) = ⊥

-- how many bytes were cut off
abbrev pub cut_of : RecoveryEnd → ℕ
cut_of (Recovered events cut named) = cut
cut_of (Untold events cut named) = cut
cut_of (Unnamed events cut fault) = cut
cut_of (Refused fault) = 0

-- what is said of an end on standard error, after the bytes that were cut off, where the file has this name
abbrev pub after_cut : List ℕ → RecoveryEnd → List ℕ
after_cut part (Recovered events cut named) = []
after_cut part (Untold events cut named) = fault_line Write
after_cut part (Unnamed events cut fault) = fault_line (unkept_fault fault) ++ left_text true part
after_cut part (Refused named) = named_text named

-- what is said of it there
abbrev pub said_of : List ℕ → RecoveryEnd → List ℕ
said_of part end = cut_line (cut_of end) ++ after_cut part end

-- what is told of it on the output
abbrev pub HasWritten : RecoveryEnd → Use → Type 0
HasWritten (Recovered events cut named) output = Appends output.before output.after (recovered_line events)
HasWritten (Untold events cut named) output =
    (output.failed ≡ true) × ((n : ℕ) × Appends output.before output.after (take n (recovered_line events)))
HasWritten (Unnamed events cut fault) output = Keeps output.before output.after
HasWritten (Refused fault) output = Keeps output.before output.after

-- the status by it
abbrev pub status_of_end : RecoveryEnd → ℕ
status_of_end (Recovered events cut named) = 0
status_of_end (Untold events cut named) = status_of Write
status_of_end (Unnamed events cut fault) = status_of (unkept_fault fault)
status_of_end (Refused named) = status_of named.fault

-- A run of `recover` for a trail of this name writes what one end has, and says that on standard error and by its
-- status.
pub record IsRecoverRun (trail : List ℕ) (status : ℕ) (output : Use) (old new : EndState) : Type 0 where
  pub end : RecoveryEnd
  pub written : HasWritten end output
  pub said : Puts (said_of (trail ++ codes ".part") end) old new
  pub status_is : status ≡ status_of_end end
