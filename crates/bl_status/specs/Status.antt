-- The status that a run ends with.
use Rattle.std.specs.Prelude.{◌≡◌, ◌⊎◌, ℕ, zero, suc, List, [], ◌∷◌}
use Rattle.bl_status.specs.declared.fault.ProgramFault.{ProgramFault}
use Rattle.bl_status.specs.declared.fault.ProgramFault.TheVariants.{CannotReadSetup, Setup, CannotReadTrail}
use Rattle.bl_status.specs.declared.fault.ProgramFault.TheVariants.{CannotWriteTrail, NoTrail, TrailIsThere, InUse}
use Rattle.bl_status.specs.declared.fault.ProgramFault.TheVariants.{OtherSetup, TornSetup, OldVersion, WrongAt, NotBegun}
use Rattle.bl_status.specs.declared.fault.ProgramFault.TheVariants.{Over, NoMoreSessions, NotKept, CutShort}
use Rattle.bl_status.specs.declared.fault.ProgramFault.TheVariants.{CannotListen, Read, Write, TooLong, NoMemory}

-- 4 when out of memory, and 3 for anything else
abbrev pub status_of : ProgramFault → ℕ
status_of CannotReadSetup = 3
status_of (Setup line kind) = 3
status_of CannotReadTrail = 3
status_of CannotWriteTrail = 3
status_of NoTrail = 3
status_of TrailIsThere = 3
status_of InUse = 3
status_of OtherSetup = 3
status_of TornSetup = 3
status_of OldVersion = 3
status_of (WrongAt line) = 3
status_of NotBegun = 3
status_of Over = 3
status_of NoMoreSessions = 3
status_of NotKept = 3
status_of CutShort = 3
status_of CannotListen = 3
status_of Read = 3
status_of Write = 3
status_of TooLong = 3
status_of NoMemory = 4

-- done, a fault, or out of memory
abbrev pub IsEnd : ℕ → Type 0
IsEnd status = (status ≡ 0) ⊎ ((status ≡ 3) ⊎ (status ≡ 4))

-- a trail was rejected; bad arguments; or done, a fault, or out of memory
abbrev pub IsStatus : ℕ → Type 0
IsStatus status = (status ≡ 1) ⊎ ((status ≡ 2) ⊎ IsEnd status)

-- a status after further faults: the first fault gives it
abbrev pub status_after : ℕ → List ProgramFault → ℕ
status_after status [] = status
status_after zero (fault ∷ later) = status_of fault
status_after (suc n) (fault ∷ later) = suc n
