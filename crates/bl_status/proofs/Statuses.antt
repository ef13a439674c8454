-- The statuses of faults.
use Rattle.std.proofs.Common.{◌≡◌, ◌⊎◌, inl, inr, refl}
use Rattle.bl_status.specs.Status.{status_of}
use Rattle.bl_status.specs.declared.fault.ProgramFault.{ProgramFault}
use Rattle.bl_status.specs.declared.fault.ProgramFault.TheVariants.{CannotReadSetup, Setup, CannotReadTrail, CannotWriteTrail}
use Rattle.bl_status.specs.declared.fault.ProgramFault.TheVariants.{NoTrail, TrailIsThere, InUse, OtherSetup, TornSetup, OldVersion}
use Rattle.bl_status.specs.declared.fault.ProgramFault.TheVariants.{WrongAt, NotBegun, Over, NoMoreSessions, NotKept, CutShort}
use Rattle.bl_status.specs.declared.fault.ProgramFault.TheVariants.{CannotListen, Read, Write, TooLong, NoMemory}

-- a fault has one of two
pub status_range : (fault : ProgramFault) → (status_of fault ≡ 3) ⊎ (status_of fault ≡ 4)
status_range CannotReadSetup = inl refl
status_range (Setup line kind) = inl refl
status_range CannotReadTrail = inl refl
status_range CannotWriteTrail = inl refl
status_range NoTrail = inl refl
status_range TrailIsThere = inl refl
status_range InUse = inl refl
status_range OtherSetup = inl refl
status_range TornSetup = inl refl
status_range OldVersion = inl refl
status_range (WrongAt line) = inl refl
status_range NotBegun = inl refl
status_range Over = inl refl
status_range NoMoreSessions = inl refl
status_range NotKept = inl refl
status_range CutShort = inl refl
status_range CannotListen = inl refl
status_range Read = inl refl
status_range Write = inl refl
status_range TooLong = inl refl
status_range NoMemory = inr refl
