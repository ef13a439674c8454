-- What a fault of a journal is told as, and that its file has failed then.
use Rattle.std.proofs.Common.{◌≡◌, ◌≢◌, Bool, Option, None, Some, IfSome, true, inl, inr, refl, subst, sym}
use Rattle.bl_disk.specs.declared.device.DeviceError.{DeviceError}
use Rattle.bl_disk.specs.declared.device.DeviceError.TheVariants as devices
use Rattle.bl_record.specs.Faults.{IsCaused}
use Rattle.bl_record.specs.Kept.{HasFailedBy}
use Rattle.bl_record.specs.declared.fault.JournalFault.{JournalFault}
use Rattle.bl_record.specs.declared.fault.JournalFault.TheVariants.{Memory, Device}
use Rattle.bl_status.specs.declared.fault.ProgramFault.TheVariants.{CannotWriteTrail, CutShort}
use Rattle.bl_trail_run.specs.Recording.{IsOfTrail}
use Rattle.bl_alone.specs.Telling.{end_fault, unkept_fault}
use Rattle.bl_trail_run.specs.Beginning.{begin_fault}

-- a fault at the end is one of a trail
pub of_trail : (fault : JournalFault) → IsOfTrail (end_fault fault)
of_trail Memory = inr refl
of_trail (Device devices.Memory) = inr refl
of_trail (Device devices.Full) = inl refl
of_trail (Device devices.Failed) = inl refl

-- a trail that cannot be written is of a file that has failed
pub begin_caused : (fault : JournalFault) (failed : Bool) → IsCaused fault failed → begin_fault fault ≡ CannotWriteTrail → failed ≡ true
begin_caused Memory failed caused told = absurd (cc)
begin_caused (Device devices.Memory) failed caused told = absurd (cc)
begin_caused (Device devices.Full) failed caused told = caused (λ e. cc)
begin_caused (Device devices.Failed) failed caused told = caused (λ e. cc)

-- and so is one that is cut short
pub end_caused : (fault : JournalFault) (failed : Bool) → IsCaused fault failed → Some (end_fault fault) ≡ Some CutShort → failed ≡ true
end_caused Memory failed caused told = absurd (cc)
end_caused (Device devices.Memory) failed caused told = absurd (cc)
end_caused (Device devices.Full) failed caused told = caused (λ e. cc)
end_caused (Device devices.Failed) failed caused told = caused (λ e. cc)

-- by what a journal has failed its device has, or has refused a growth
pub caused_in : (fault : Option DeviceError) (why : JournalFault) (failed : Bool) → HasFailedBy fault why → IsCaused why failed
    → IfSome fault (λ error. error ≢ devices.Memory → failed ≡ true)
caused_in fault Memory failed by caused = subst (λ (f : Option DeviceError). IfSome f (λ error. error ≢ devices.Memory → failed ≡ true)) (sym by) tt
caused_in fault (Device error) failed by caused = subst (λ (f : Option DeviceError). IfSome f (λ error. error ≢ devices.Memory → failed ≡ true)) (sym by) caused

-- what is told of a journal that was not kept is of its trail
pub unkept_of_trail : (fault : Option DeviceError) → IsOfTrail (unkept_fault fault)
unkept_of_trail None = inr refl
unkept_of_trail (Some error) = of_trail (Device error)

-- and that is cut short only where its device has failed
pub unkept_caused : (fault : Option DeviceError) (failed : Bool) → IfSome fault (λ error. error ≢ devices.Memory → failed ≡ true)
    → Some (unkept_fault fault) ≡ Some CutShort → failed ≡ true
unkept_caused None failed caused told = absurd (cc)
unkept_caused (Some error) failed caused told = end_caused (Device error) failed caused told

-- what is there is not missing
pub given_not_none : {T : Type 0} (a : T) (o : Option T) → o ≡ Some a → o ≡ None → ⊥
given_not_none a o given none' = cc
