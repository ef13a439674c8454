-- How the file of a trail is left that was kept as its run went.
use Rattle.std.specs.Prelude.{Bool, true, false, Option, Some, None, Result, Ok, Err}
use Rattle.bl_trail_run.specs.declared.recorded.RecordedFile.{RecordedFile}
use Rattle.bl_trail_run.specs.declared.recorded.RecordedFile.TheVariants.{Whole, Left}

-- whether the trail in it is whole
abbrev pub is_whole : {D : Type 0} → RecordedFile D → Bool
is_whole (Whole closed) = true
is_whole (Left device) = false

-- what this says of the file
abbrev pub file_in : {D A : Type 0} → (D → A) → RecordedFile D → A
file_in what (Whole closed) = what closed
file_in what (Left device) = what device

-- the file of a journal that was closed, or is left with a fault
abbrev pub file_after : {D Fault : Type 0} → Result D (Fault × D) → RecordedFile D
file_after (Ok closed) = Whole closed
file_after (Err failed) = Left failed.1

-- its fault, where it has one
abbrev pub fault_in : {D Fault : Type 0} → Result D (Fault × D) → Option Fault
fault_in (Ok closed) = None
fault_in (Err failed) = Some failed.0
