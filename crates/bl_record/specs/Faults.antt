-- How the faults of other calls are told by a recovery.
use Rattle.std.specs.Prelude.{◌≡◌, ◌≢◌, Bool, true}
use Rattle.bl_disk.specs.declared.device.DeviceError.TheVariants as devices
use Rattle.bl_rebuild.specs.declared.fault.RebuildFault.{RebuildFault}
use Rattle.bl_rebuild.specs.declared.fault.RebuildFault.TheVariants as rebuilding
use Rattle.bl_record.specs.declared.fault.JournalFault.{JournalFault}
use Rattle.bl_record.specs.declared.fault.JournalFault.TheVariants as keeping
use Rattle.bl_record.specs.declared.fault.RecoverFault.{RecoverFault}
use Rattle.bl_record.specs.declared.fault.RecoverFault.TheVariants.{Head, OldVersion, Memory, Device}
use Rattle.bl_record.specs.declared.fault.ResumeFault.{ResumeFault}
use Rattle.bl_record.specs.declared.fault.ResumeFault.TheVariants as resuming

abbrev pub of_rebuilding : RebuildFault → RecoverFault
of_rebuilding (rebuilding.Head line) = Head line
of_rebuilding rebuilding.OldVersion = OldVersion
of_rebuilding rebuilding.Memory = Memory

abbrev pub of_keeping : JournalFault → RecoverFault
of_keeping keeping.Memory = Memory
of_keeping (keeping.Device error) = Device error

-- A device's fault is one only where the device has failed, or refused a growth.
abbrev pub IsCaused : JournalFault → Bool → Type 0
IsCaused keeping.Memory has_failed = Unit {0}
IsCaused (keeping.Device error) has_failed = error ≢ devices.Memory → has_failed ≡ true

-- that of a recovery, too
abbrev pub IsRecoverCaused : RecoverFault → Bool → Type 0
IsRecoverCaused (Head line) has_failed = Unit {0}
IsRecoverCaused OldVersion has_failed = Unit {0}
IsRecoverCaused Memory has_failed = Unit {0}
IsRecoverCaused (Device error) has_failed = error ≢ devices.Memory → has_failed ≡ true

-- and that of a run that goes on
abbrev pub IsResumeCaused : ResumeFault → Bool → Type 0
IsResumeCaused (resuming.Unrecovered fault) has_failed = IsRecoverCaused fault has_failed
IsResumeCaused resuming.Over has_failed = Unit {0}
IsResumeCaused (resuming.Wrong line) has_failed = Unit {0}
