-- What is said of a journal that is gone on with, and what its faults are to the program.
use Rattle.std.specs.Prelude.{ℕ, zero, suc, List, [], ◌++◌, codes, decimal}
use Rattle.bl_disk.specs.declared.device.DeviceError.TheVariants as devices
use Rattle.bl_record.specs.declared.fault.RecoverFault.{RecoverFault}
use Rattle.bl_record.specs.declared.fault.RecoverFault.TheVariants as recovering
use Rattle.bl_record.specs.declared.fault.ResumeFault.{ResumeFault}
use Rattle.bl_record.specs.declared.fault.ResumeFault.TheVariants as resuming
use Rattle.bl_status.specs.declared.fault.ProgramFault.{ProgramFault}
use Rattle.bl_status.specs.declared.fault.ProgramFault.TheVariants.{CannotWriteTrail, NoMemory, OldVersion, Over, WrongAt}

-- what each fault of a recovery is to its run
abbrev pub recover_fault : RecoverFault → ProgramFault
recover_fault (recovering.Head line) = WrongAt line
recover_fault recovering.OldVersion = OldVersion
recover_fault recovering.Memory = NoMemory
recover_fault (recovering.Device devices.Memory) = NoMemory
recover_fault (recovering.Device devices.Full) = CannotWriteTrail
recover_fault (recovering.Device devices.Failed) = CannotWriteTrail

-- what it is to the run that a journal is not gone on with
abbrev pub resume_fault : ResumeFault → ProgramFault
resume_fault (resuming.Unrecovered fault) = recover_fault fault
resume_fault resuming.Over = Over
resume_fault (resuming.Wrong line) = WrongAt line

-- own choice: how many bytes were cut off is told where some were
abbrev pub cut_line : ℕ → List ℕ
cut_line zero = []
cut_line (suc n) = codes "cut " ++ (decimal (suc n) ++ codes " bytes\n")
