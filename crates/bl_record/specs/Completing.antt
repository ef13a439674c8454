-- What is made of a text, and whether a run may go on from it.
use Rattle.std.specs.Prelude.{◌≡◌, ◌≢◌, ◌≤◌, ◌<◌, ℕ, suc, true, false, List, codes, drop, length, take}
use Rattle.bl_audit.specs.Bookmarks.{IsBookmark}
use Rattle.bl_journal.specs.Journals.{journal_text}
use Rattle.bl_rebuild.specs.Rebuilds.{journal_of}
use Rattle.bl_record.specs.Recovering.{IsFinished, lines_in}
use Rattle.bl_record.specs.declared.complete.Completed.{Completed}
use Rattle.bl_record.specs.declared.fault.ResumeFault.{ResumeFault}
use Rattle.bl_record.specs.declared.fault.ResumeFault.TheVariants.{Unrecovered, Over, Wrong}
use Rattle.bl_record.specs.declared.rest.Rest.{Rest}
use Rattle.bl_setup.specs.Setup.{Setup}

-- What a text has after its right part: whether that is a closing stop, how long it is, and which lines it has.
pub record IsRest (text : List ℕ) (right : ℕ) (rest : Rest) : Type 0 where
  pub is_stop : rest.is_stop ≡ true → drop right text ≡ codes "stop\n"
  pub no_stop : rest.is_stop ≡ false → drop right text ≢ codes "stop\n"
  pub bytes : rest.bytes ≡ length (drop right text)
  pub lines : rest.lines ≡ lines_in (drop right text)
  pub first : rest.first ≡ suc (lines_in (take right text))

-- The hall is finished; the bookmark stands where the text's right part ends, and this is what the text has after it.
pub record IsCompleted (setup : Setup) (text : List ℕ) (completed : Completed) : Type 0 where
  pub finished : IsFinished setup text completed.hall
  pub right : completed.right ≡ length (journal_text setup (journal_of finished.found))
  pub bookmark : IsBookmark finished.found completed.bookmark
  pub all : completed.bookmark.written ≡ length finished.found.trail
  pub rest : IsRest text completed.right completed.rest

-- A run may go on from a text that has this after its right part: no closing stop, and at most one whole line.
pub record MayGoOn (rest : Rest) : Type 0 where
  pub no_stop : rest.is_stop ≡ false
  pub few : rest.lines ≤ 1

-- why it may not
abbrev pub IsRefused : Rest → ResumeFault → Type 0
IsRefused rest (Unrecovered fault) = ⊥
IsRefused rest Over = rest.is_stop ≡ true
IsRefused rest (Wrong line) = (1 < rest.lines) × (line ≡ rest.first)
