-- What a trail that is not kept is told as, and what is said of where it is left.
use Rattle.std.specs.Prelude.{◌≡◌, ◌⊎◌, ℕ, List, [], ◌∷◌, ◌++◌, Bool, true, false, codes}
use Rattle.bl_status.specs.declared.fault.ProgramFault.{ProgramFault}
use Rattle.bl_status.specs.declared.fault.ProgramFault.TheVariants.{CannotWriteTrail, NoMemory}
use Rattle.bl_trail_file.specs.declared.fault.KeepFault.{KeepFault}
use Rattle.bl_trail_file.specs.declared.fault.KeepFault.TheVariants.{Unwritable, Memory}

-- what a fault of a trail that is not kept is told as
abbrev pub unkept_fault : KeepFault → ProgramFault
unkept_fault Unwritable = CannotWriteTrail
unkept_fault Memory = NoMemory

-- the trail could not be written or could not have its name, or a growth was refused
abbrev pub IsUnkept : ProgramFault → Type 0
IsUnkept fault = (fault ≡ CannotWriteTrail) ⊎ (fault ≡ NoMemory)

-- own choice: the words for what is left of a trail, whole or not
abbrev pub left_words : Bool → List ℕ
left_words true = codes "the whole trail is in "
left_words false = codes "the trail is cut short in "

-- in the file of which name that is, on a line of its own
abbrev pub left_text : Bool → List ℕ → List ℕ
left_text whole name = left_words whole ++ (name ++ 10 ∷ [])
