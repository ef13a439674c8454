-- What ends a run whose trail is kept as it goes.
use Rattle.std.specs.Prelude.{◌≡◌, Option, Some, None, Result, Ok, Err}
use Rattle.bl_disk.specs.declared.device.DeviceError.{DeviceError}
use Rattle.bl_disk.specs.declared.device.DeviceError.TheVariants as devices
use Rattle.bl_record.specs.declared.fault.JournalFault.{JournalFault}
use Rattle.bl_record.specs.declared.fault.JournalFault.TheVariants as keeping
use Rattle.bl_status.specs.Failure.{IsOfSession}
use Rattle.bl_status.specs.declared.fault.ProgramFault.{ProgramFault}
use Rattle.bl_status.specs.declared.fault.ProgramFault.TheVariants.{CutShort, NoMemory, NotKept}
use Rattle.bl_session.specs.declared.keep.Stop.{Stop}
use Rattle.bl_session.specs.declared.keep.Stop.TheVariants as stops

-- what a stop of the session is told as
abbrev pub IsOfStop : Stop → ProgramFault → Type 0
IsOfStop (stops.Fault of) fault = IsOfSession of fault
IsOfStop stops.NotKept fault = fault ≡ NotKept

-- the fault of a session that ended early, or none
abbrev pub IsOfSessionEnd : Result (Unit {0}) Stop → Option ProgramFault → Type 0
IsOfSessionEnd (Ok done) None = Unit {0}
IsOfSessionEnd (Ok done) (Some fault) = ⊥
IsOfSessionEnd (Err stop) None = ⊥
IsOfSessionEnd (Err stop) (Some fault) = IsOfStop stop fault

-- what it is to the run that the journal did not keep what happened last
abbrev pub end_fault : JournalFault → ProgramFault
end_fault keeping.Memory = NoMemory
end_fault (keeping.Device devices.Memory) = NoMemory
end_fault (keeping.Device devices.Full) = CutShort
end_fault (keeping.Device devices.Failed) = CutShort

-- what it is to the run that its session ended since the journal was not kept, which has failed by this error; one that
-- has none has not failed
abbrev pub unkept_fault : Option DeviceError → ProgramFault
unkept_fault None = NoMemory
unkept_fault (Some error) = end_fault (keeping.Device error)
