-- The letters of modes, which lines and setup files share.
use Rattle.std.specs.Prelude.{ℕ, if◌then◌else◌, List, [], ◌∷◌, Option, Some, None}
use Rattle.std.specs.Str.{bytes_eq}
use Rattle.bl_policy.specs.declared.access.Mode.{Mode}
use Rattle.bl_policy.specs.declared.access.Mode.TheVariants.{Read, Append, Write}

-- own choice: the letter of a mode, `r`, `a` or `w`. A letter is not reserved: in another place it is a name like any other.
abbrev pub letter_of : Mode → List ℕ
letter_of Read = 114 ∷ []
letter_of Append = 97 ∷ []
letter_of Write = 119 ∷ []

-- the mode of a letter
abbrev pub mode_of : List ℕ → Option Mode
mode_of n =
    if bytes_eq n (letter_of Read) then Some Read
    else (if bytes_eq n (letter_of Append) then Some Append
    else (if bytes_eq n (letter_of Write) then Some Write
    else None))
