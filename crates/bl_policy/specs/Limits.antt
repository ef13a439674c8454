-- How many subjects and documents a policy may have.
use Rattle.std.specs.Prelude.{ℕ}

-- own choice
abbrev pub most_subjects : ℕ
most_subjects = 256

-- own choice
abbrev pub most_documents : ℕ
most_documents = 1024
