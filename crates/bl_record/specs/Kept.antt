-- What a journal has kept of a hall, and what a crash leaves of it.
use Rattle.std.specs.Prelude.{◌≡◌, List, ℕ, ◌++◌, codes, length, Option, Some, None}
use Rattle.std.specs.List.{AllByRecursion}
use Rattle.bl_audit.specs.Bookmarks.{IsBookmark, texts_after}
use Rattle.bl_audit.specs.declared.bookmark.Bookmark.{Bookmark}
use Rattle.bl_disk.specs.File.{File, MayLeave, all_kept}
use Rattle.bl_disk.specs.declared.device.DeviceError.{DeviceError}
use Rattle.bl_hall.specs.Chronicle.{Chronicle, HasTrail}
use Rattle.bl_journal.specs.Journals.{GoesOnFrom, IsHistory, IsRecovered, Journal, journal_text}
use Rattle.bl_rebuild.specs.Rebuilds.{journal_of}
use Rattle.bl_record.specs.declared.fault.JournalFault.{JournalFault}
use Rattle.bl_record.specs.declared.fault.JournalFault.TheVariants.{Device, Memory}
use Rattle.bl_record.specs.declared.journal.Lines.{Lines}
use Rattle.bl_setup.specs.Setup.{Setup}
use Rattle.bl_setup.specs.declared.version.Version.TheVariants.{Two}
use Rattle.bl_trail.specs.TrueText.{HasNoLf, joined}

-- The file has the text of the hall's trail and nothing else, all of it is on the disk for certain, and the bookmark
-- stands after all of it.
pub record IsKept (hall : Chronicle) (reached : Bookmark) (file : File) : Type 0 where
  pub two : hall.setup.version ≡ Two
  pub history : IsHistory hall.setup (journal_of hall)
  pub text : file ≡ all_kept (journal_text hall.setup (journal_of hall))
  pub bookmark : IsBookmark hall reached
  pub all : reached.written ≡ length hall.trail

-- Lines of all that has happened in the hall since the first bookmark, which stands there: their texts have no LF, and
-- the bookmark after them stands after all of the hall's trail.
pub record AreLines (hall : Chronicle) (from : Bookmark) (lines : Lines) : Type 0 where
  pub trail : HasTrail hall
  pub text : lines.text.items ≡ joined (texts_after hall from.written)
  pub plain : AllByRecursion HasNoLf (texts_after hall from.written)
  pub bookmark : IsBookmark hall lines.bookmark
  pub all : lines.bookmark.written ≡ length hall.trail

-- such lines, and then the one that closes a trail
abbrev pub AreLastLines : Chronicle → Bookmark → List ℕ → Type 0
AreLastLines hall from text = (lines : Lines) × AreLines hall from lines × (text ≡ lines.text.items ++ codes "stop\n")

-- whatever a crash leaves of the file, the journal that is recovered of it goes on from this one
abbrev pub LosesNothing : Setup → Journal → File → Type 0
LosesNothing setup kept file =
    (left : List ℕ) (found : Journal) → MayLeave file left → IsRecovered setup left found → GoesOnFrom kept found

-- by what a journal has failed, after a call that told this fault: where a growth was refused, the device has not
-- failed
abbrev pub HasFailedBy : Option DeviceError → JournalFault → Type 0
HasFailedBy failed (Device error) = failed ≡ Some error
HasFailedBy failed Memory = failed ≡ None
