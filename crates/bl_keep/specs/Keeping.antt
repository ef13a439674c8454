-- What is left of a trail that is written at the end of its run.
use Rattle.std.specs.Prelude.{◌≡◌, ℕ, List, ⊤, string_bytes, Option, Some, None, Result, Ok, Err}
use Rattle.bl_audit.specs.declared.event.TrailFault.{TrailFault}
use Rattle.bl_audit.specs.declared.event.TrailFault.TheVariants as writing
use Rattle.bl_keep.specs.declared.whole.Left.{Left}
use Rattle.bl_trail_file.specs.Made.{name_of_part}
use Rattle.bl_trail_file.specs.Parts.{IsBeside}
use Rattle.bl_trail_file.specs.declared.fault.KeepFault.{KeepFault}
use Rattle.bl_trail_file.specs.declared.fault.KeepFault.TheVariants.{Unwritable, Memory}
use Rattle.bl_trail_file.specs.declared.part.PartFile.{PartFile}

-- What is left of a trail is in the file that was claimed for it, or else in one that was made beside its name; nothing
-- is left where none could be.
abbrev pub IsLeftIn : {F : Type 0} → List ℕ → Option (PartFile F) → Option Left → Type 0
IsLeftIn name (Some part) None = ⊥
IsLeftIn name (Some part) (Some left) = left.name ≡ name_of_part part
IsLeftIn name None None = ⊤
IsLeftIn name None (Some left) = IsBeside name (string_bytes left.name)

-- Why a trail is not whole in its file that was written so: a growth was refused; or the file did not take all, of the
-- text, or of its end that was held back.
abbrev pub writing_fault : Result (Unit {0}) TrailFault → KeepFault
writing_fault (Ok done) = Unwritable
writing_fault (Err writing.Write) = Unwritable
writing_fault (Err writing.Memory) = Memory
