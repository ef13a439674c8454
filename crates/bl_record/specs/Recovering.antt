-- What is made of the file of a journal after a crash.
use Rattle.std.specs.Prelude.{◌≡◌, ◌≢◌, ◌==◌, ◌≤◌, ◌<◌, ℕ, suc, List, ◌++◌, codes, count_by, length}
use Rattle.bl_disk.specs.File.{File, Keeps, all_kept, seen}
use Rattle.bl_disk.specs.Moments.{Passes}
use Rattle.bl_hall.specs.Chronicle.{Chronicle, state_now}
use Rattle.bl_journal.specs.Journals.{IsHistory, IsRecovered, Journal, journal_text}
use Rattle.bl_order.specs.Standing.{HaveAllEnded}
use Rattle.bl_rebuild.specs.Rebuilds.{IsHeadless, IsOld, journal_of}
use Rattle.bl_record.specs.Ending.{HasGoneOn}
use Rattle.bl_record.specs.Kept.{LosesNothing}
use Rattle.bl_record.specs.declared.fault.RecoverFault.{RecoverFault}
use Rattle.bl_record.specs.declared.fault.RecoverFault.TheVariants.{Head, OldVersion, Memory, Device}
use Rattle.bl_record.specs.declared.fault.ResumeFault.{ResumeFault}
use Rattle.bl_record.specs.declared.fault.ResumeFault.TheVariants.{Unrecovered, Over, Wrong}
use Rattle.bl_setup.specs.Setup.{Setup}
use Rattle.bl_trail.specs.TrueText.{IsTrueText}

-- how many whole lines are in a text
abbrev pub lines_in : List ℕ → ℕ
lines_in text = count_by (λ b. b == 10) text

-- The hall has gone on from the journal that is recovered of the text, until nothing was left unfinished.
pub record IsFinished (setup : Setup) (text : List ℕ) (hall : Chronicle) : Type 0 where
  pub found : Chronicle
  pub setup_is : found.setup ≡ setup
  pub recovered : IsRecovered setup text (journal_of found)
  pub on : HasGoneOn found hall
  pub ended : HaveAllEnded (state_now hall)

-- A run may go on from the hall, which is finished. So many bytes of the text were not recovered; they are no closing
-- stop, and have at most one whole line.
pub record IsResumed (setup : Setup) (text : List ℕ) (hall : Chronicle) (cut : ℕ) : Type 0 where
  pub finished : IsFinished setup text hall
  pub was_cut : cut ≡ length finished.recovered.rest
  pub not_over : finished.recovered.rest ≢ codes "stop\n"
  pub few : lines_in finished.recovered.rest ≤ 1

-- The file is closed: it has the true text of so many events, those of a finished hall, and all of it is on the disk.
-- So many bytes of the text were cut off; a closing stop is not counted.
pub record IsClosed (setup : Setup) (text : List ℕ) (events cut : ℕ) (file : File) : Type 0 where
  pub closed : Chronicle
  pub finished : IsFinished setup text closed
  pub history : IsHistory setup (journal_of closed)
  pub there : file ≡ all_kept (journal_text setup (journal_of closed) ++ codes "stop\n")
  pub true_text : IsTrueText setup (seen file) events
  pub counted : events ≡ length closed.trail
  pub was_over : finished.recovered.rest ≡ codes "stop\n" → cut ≡ 0
  pub was_cut : finished.recovered.rest ≢ codes "stop\n" → cut ≡ length finished.recovered.rest

-- Whatever history was kept on the disk before is kept at each moment on the way, so that what is recovered after a
-- crash goes on from it.
abbrev pub LosesNoHistory : {D : Type 0} → (D → File) → (D → List File) → Setup → D → D → Type 0
LosesNoHistory now past setup from to =
    (kept : Journal) → IsHistory setup kept → Keeps (journal_text setup kept) (now from)
    → Passes now past from to (LosesNothing setup kept)

-- why no journal is recovered of a text
abbrev pub IsNotRecovered : Setup → List ℕ → RecoverFault → Type 0
IsNotRecovered setup text (Head line) = IsHeadless setup text line
IsNotRecovered setup text OldVersion = IsOld setup text
IsNotRecovered setup text Memory = Unit {0}
IsNotRecovered setup text (Device error) = Unit {0}

-- the recovered journal is followed by a closing stop, and by nothing else
pub record IsOver (setup : Setup) (text : List ℕ) : Type 0 where
  pub found : Journal
  pub recovered : IsRecovered setup text found
  pub stop : recovered.rest ≡ codes "stop\n"

-- the recovered journal is followed by more than one whole line, of which this is the first
pub record HasWrongLines (setup : Setup) (text : List ℕ) (line : ℕ) : Type 0 where
  pub found : Journal
  pub recovered : IsRecovered setup text found
  pub more : 1 < lines_in recovered.rest
  pub is : line ≡ suc (lines_in (journal_text setup found))

-- why no run goes on from a text
abbrev pub IsNotResumed : Setup → List ℕ → ResumeFault → Type 0
IsNotResumed setup text (Unrecovered fault) = IsNotRecovered setup text fault
IsNotResumed setup text Over = IsOver setup text
IsNotResumed setup text (Wrong line) = HasWrongLines setup text line
