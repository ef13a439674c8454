-- What a journal has kept of a session, and what is left of it.
use Rattle.std.specs.Prelude.{◌≡◌, ◌≢◌, ◌⊎◌, ℕ, Bool, false, true, [], ◌++◌, codes, length, Option, Some, None, IfSome}
use Rattle.bl_disk.specs.File.{File, all_kept, seen}
use Rattle.bl_disk.specs.declared.device.DeviceError.{DeviceError}
use Rattle.bl_disk.specs.declared.device.DeviceError.TheVariants.{Memory as NoRoom}
use Rattle.bl_hall.specs.Chronicle.{Chronicle}
use Rattle.bl_journal.specs.Journals.{journal_text}
use Rattle.bl_rebuild.specs.Rebuilds.{journal_of}
use Rattle.bl_record.specs.Kept.{IsKept, LosesNothing}
use Rattle.bl_record.specs.declared.journal.Journal.{Journal}
use Rattle.bl_status.specs.declared.fault.ProgramFault.{ProgramFault}
use Rattle.bl_status.specs.declared.fault.ProgramFault.TheVariants.{CutShort, NoMemory}
use Rattle.bl_session.specs.Keeping.{IsFrontOf}
use Rattle.bl_setup.specs.Setup.{Setup}
use Rattle.bl_trail.specs.TrueText.{IsTrueText}

-- a hall in which nothing has happened
abbrev pub new_hall : Setup → ℕ → Chronicle
new_hall setup limit = record { setup = setup; limit = limit; trail = [] }

-- the journal has not failed, and has kept all of the hall's trail
abbrev pub HasRecorded : {D : Type 0} → (D → File) → (D → Bool) → Journal D → Chronicle → Type 0
HasRecorded now has_failed journal hall =
    (journal.fault ≡ None) × (has_failed journal.log.device ≡ false) × IsKept hall journal.bookmark (now
    journal.log.device)

-- the journal has failed by an error of its device, which has failed then, or has refused a growth
abbrev pub HasFailed : {D : Type 0} → (D → Bool) → Journal D → Type 0
HasFailed has_failed journal =
    (error : DeviceError) × (journal.fault ≡ Some error) × (error ≢ NoRoom → has_failed journal.log.device ≡ true)

-- where the journal has failed, its device has, or has refused a growth
abbrev pub IsCausedIn : {D : Type 0} → (D → Bool) → Journal D → Type 0
IsCausedIn has_failed journal =
    IfSome journal.fault (λ error. error ≢ NoRoom → has_failed journal.log.device ≡ true)

-- whatever a crash leaves of the file, what is recovered goes on from the hall's trail
abbrev pub IsSafe : Chronicle → File → Type 0
IsSafe hall file = LosesNothing hall.setup (journal_of hall) file

-- so it is with the journal's file, also of one that has failed
abbrev pub HasHeld : {D : Type 0} → (D → File) → (D → Bool) → Journal D → Chronicle → Type 0
HasHeld now has_failed journal hall = IsSafe hall (now journal.log.device) × IsCausedIn has_failed journal

-- the file has the hall's trail, whole, and all of it is on the disk
pub record IsWhole (hall : Chronicle) (file : File) : Type 0 where
  pub there : file ≡ all_kept (journal_text hall.setup (journal_of hall) ++ codes "stop\n")
  pub true_text : IsTrueText hall.setup (seen file) (length hall.trail)

-- the file took no more, or a growth was refused
abbrev pub IsOfTrail : ProgramFault → Type 0
IsOfTrail fault = (fault ≡ CutShort) ⊎ (fault ≡ NoMemory)

-- What is left of a trail of which so much was kept while the session was served: it is whole, and that of the
-- session's hall; or there is a fault, and what was kept is safe.
abbrev pub IsLeft : (kept hall : Chronicle) → Option ProgramFault → File → Type 0
IsLeft kept hall None file = IsFrontOf kept hall × IsWhole hall file
IsLeft kept hall (Some fault) file = IsOfTrail fault × IsSafe kept file
