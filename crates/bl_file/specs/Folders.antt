-- The folder in which a path's file stands.
use Rattle.std.specs.Prelude.{◌≡◌, ◌⊎◌, ℕ, List, [], ◌∷◌, ◌++◌, codes}
use Rattle.std.specs.Path.{HasNoSlash, slash}

-- It is all up to the last slash; where there is none, it is the folder that the program runs in (POSIX, "Pathname
-- Resolution").
abbrev pub IsFolderOf : List ℕ → List ℕ → Type 0
IsFolderOf path folder =
    ((above last : List ℕ) × (folder ≡ above ++ slash ∷ []) × (path ≡ folder ++ last) × HasNoSlash last)
    ⊎ (HasNoSlash path × (folder ≡ codes "."))
