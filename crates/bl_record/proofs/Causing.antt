-- Why a recovery failed.
use Rattle.std.specs.Prelude.{Bool, Result, Ok, Err, IfErr}
use Rattle.bl_rebuild.specs.declared.fault.RebuildFault.{RebuildFault}
use Rattle.bl_rebuild.specs.declared.fault.RebuildFault.TheVariants as rebuilding
use Rattle.bl_record.specs.Faults.{IsRecoverCaused, of_rebuilding}
use Rattle.bl_record.specs.declared.fault.RecoverFault.{RecoverFault}

-- what is no device's fault is caused, whether or not the device has failed
pub caused-by : {A : Type 0} (r : Result A RecoverFault) (failed : Bool) → IfErr r (λ (f : RecoverFault). (b : Bool) → IsRecoverCaused f b) → IfErr r (λ (f : RecoverFault). IsRecoverCaused f failed)
caused-by (Ok v) failed caused = tt
caused-by (Err f) failed caused = caused failed

-- and so is what a rebuilding tells
pub rebuilding-caused : (f : RebuildFault) (failed : Bool) → IsRecoverCaused (of_rebuilding f) failed
rebuilding-caused (rebuilding.Head line) failed = tt
rebuilding-caused rebuilding.OldVersion failed = tt
rebuilding-caused rebuilding.Memory failed = tt
