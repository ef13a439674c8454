-- What a run whose trail is kept as it goes begins with.
use Rattle.std.specs.Prelude.{◌≡◌, ℕ, Bool, true, false, List, []}
use Rattle.bl_hall.specs.Chronicle.{Chronicle}
use Rattle.bl_record.specs.Faults.{IsCaused, IsResumeCaused}
use Rattle.bl_record.specs.Recovering.{IsNotResumed, IsResumed}
use Rattle.bl_disk.specs.declared.device.DeviceError.TheVariants as devices
use Rattle.bl_record.specs.declared.fault.JournalFault.{JournalFault}
use Rattle.bl_record.specs.declared.fault.JournalFault.TheVariants as keeping
use Rattle.bl_record.specs.declared.fault.ResumeFault.{ResumeFault}
use Rattle.bl_setup.specs.Setup.{Setup}
use Rattle.bl_journal_files.specs.Telling.{resume_fault}
use Rattle.bl_status.specs.declared.fault.ProgramFault.{ProgramFault}
use Rattle.bl_status.specs.declared.fault.ProgramFault.TheVariants.{CannotWriteTrail, NoMemory}

-- what it is to the run that no journal could be begun
abbrev pub begin_fault : JournalFault → ProgramFault
begin_fault keeping.Memory = NoMemory
begin_fault (keeping.Device devices.Memory) = NoMemory
begin_fault (keeping.Device devices.Full) = CannotWriteTrail
begin_fault (keeping.Device devices.Failed) = CannotWriteTrail

-- The hall that a run begins with, and how many bytes are cut off its file, which has this text: a new hall, or that of
-- the run that was cut off, which has gone on until all had ended that was admitted.
abbrev pub Begins : Bool → Setup → ℕ → List ℕ → Chronicle → ℕ → Type 0
Begins false setup limit text hall cut = (hall ≡ record { setup = setup; limit = limit; trail = [] }) × (cut ≡ 0)
Begins true setup limit text hall cut = IsResumed setup text hall cut

-- Why no run begins: no journal can be begun, or that of the run that was cut off is not gone on with. The file has failed
-- where the fault is one of it, unless a growth was refused.
abbrev pub IsUnbegun : Bool → Setup → List ℕ → Bool → ProgramFault → Type 0
IsUnbegun false setup text has_failed fault = (of : JournalFault) × (fault ≡ begin_fault of) × IsCaused of has_failed
IsUnbegun true setup text has_failed fault = (of : ResumeFault) × (fault ≡ resume_fault of)
    × IsNotResumed setup text of × IsResumeCaused of has_failed
