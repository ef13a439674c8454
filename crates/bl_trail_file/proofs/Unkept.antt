-- What a trail that was not kept is told as.
use Rattle.std.proofs.Common.{◌≡◌, inl, inr}
use Rattle.bl_trail_file.specs.declared.fault.KeepFault.{KeepFault}
use Rattle.bl_trail_file.specs.declared.fault.KeepFault.TheVariants.{Unwritable, Memory}
use Rattle.bl_status.specs.declared.fault.ProgramFault.{ProgramFault}
use Rattle.bl_trail_file.specs.Telling.{IsUnkept, unkept_fault}

-- each fault of a trail that is not kept is told as one of two
pub is_unkept : (of : KeepFault) (fault : ProgramFault) → fault ≡ unkept_fault of → IsUnkept fault
is_unkept Unwritable fault is = inl is
is_unkept Memory fault is = inr is
