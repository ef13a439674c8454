-- What a keeper's journal has, and what a receipt shows.
use Rattle.std.specs.Prelude.{◌≡◌, ◌≤◌, Bool, ℕ, false, length, None}
use Rattle.bl_audit.specs.Bookmarks.{HasGrown}
use Rattle.bl_audit.specs.declared.bookmark.Bookmark.{Bookmark}
use Rattle.bl_disk.specs.File.{File}
use Rattle.bl_gate.specs.Gates.{GateId, PassView, hall_seen}
use Rattle.bl_hall.specs.Chronicle.{Chronicle}
use Rattle.bl_keeper.specs.declared.receipt.Receipt.{Receipt}
use Rattle.bl_keeper.specs.declared.receipt.Receipt.TheVariants.{Kept, Nothing}
use Rattle.bl_record.specs.Kept.{IsKept}
use Rattle.bl_record.specs.declared.journal.Journal.{Journal}

-- The file has all that had happened in the hall at some time, and the bookmark stands after that; more may have
-- happened since.
pub record HasKept (hall : Chronicle) (reached : Bookmark) (file : File) : Type 0 where
  pub before : Chronicle
  pub kept : IsKept before reached file
  pub grown : HasGrown before hall

-- One part of a gate's pass, and a journal. Where the journal has not failed, its device has not, and it has kept what
-- the pass has seen, or what came before that.
pub record IsHeld {D : Type 0} (now : D → File) (has_failed : D → Bool) (gate : GateId) (pass : PassView)
    (journal : Journal D) : Type 0 where
  pub of_gate : pass.gate ≡ gate
  pub part : pass.parts ≡ 1
  pub sound : journal.fault ≡ None → has_failed journal.log.device ≡ false
  pub kept : journal.fault ≡ None → HasKept (hall_seen pass) journal.bookmark (now journal.log.device)

-- A device has stood at a moment at which its file had all of this hall, on the disk for certain.
pub record WasKept {D : Type 0} (now : D → File) (hall : Chronicle) : Type 0 where
  pub device : D
  pub reached : Bookmark
  pub kept : IsKept hall reached (now device)

-- the receipt names a hall that a device has kept
abbrev pub ShowsKept : {D : Type 0} → (D → File) → Receipt → Type 0
ShowsKept now (Kept seen) = WasKept now seen.value.value
ShowsKept now Nothing = ⊥

-- the receipt names a hall that a device has kept, with so many events at least
abbrev pub ShowsEvents : {D : Type 0} → (D → File) → ℕ → Receipt → Type 0
ShowsEvents now events (Kept seen) = WasKept now seen.value.value × (events ≤ length seen.value.value.trail)
ShowsEvents now events Nothing = ⊥
