-- A file, and what a crash leaves of it.
use Rattle.std.specs.Prelude.{◌≡◌, ℕ, List, [], ◌++◌}

-- File (own choice): the bytes that are on the disk for certain, and those after them that were handed over and may not be
pub record File : Type 0 where
  pub kept : List ℕ
  pub loose : List ℕ

-- what a read returns
abbrev pub seen : File → List ℕ
seen file = file.kept ++ file.loose

-- the whole begins with the front
abbrev pub Begins : {A : Type 0} → List A → List A → Type 0
Begins {A} front whole = (rest : List A) × (whole ≡ front ++ rest)

-- own choice: a crash, also of the machine, leaves what is kept, and anything after it: of the loose bytes all, some, or others in their place
abbrev pub MayLeave : File → List ℕ → Type 0
MayLeave file left = Begins file.kept left

-- each crash leaves a file that begins with the front
abbrev pub Keeps : List ℕ → File → Type 0
Keeps front file = (left : List ℕ) → MayLeave file left → Begins front left

-- the file has these bytes and no others, and all of them are kept
abbrev pub all_kept : List ℕ → File
all_kept bytes = record { kept = bytes; loose = [] }

-- after a sync all that a read returns is kept
abbrev pub synced : File → File
synced file = all_kept (seen file)
