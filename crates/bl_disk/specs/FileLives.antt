-- A file through many crashes.
use Rattle.std.specs.Prelude.{◌≡◌, ℕ, ◌≤◌, List, [], ◌∷◌, ◌++◌, length, take}
use Rattle.bl_disk.specs.File.{Begins}

-- One life of a file, from where it was opened to a crash: what was kept when the crash came, what was to be added, the bytes that the crash
-- left, and how many of them the next life takes.
pub record FileLife : Type 0 where
  pub kept : List ℕ
  pub added : List ℕ
  pub left : List ℕ
  pub right : ℕ

-- It begins with these bytes, and keeps them; the crash leaves what was kept, and anything after it; and the next life takes all that was kept.
pub record IsFileLife (from : List ℕ) (life : FileLife) : Type 0 where
  pub goes_on : Begins from life.kept
  pub left : Begins life.kept life.left
  pub whole : length life.kept ≤ life.right
  pub within : life.right ≤ length life.left

-- what the next life begins with
abbrev pub taken : FileLife → List ℕ
taken life = take life.right life.left

-- each life goes on from what was taken of the one before
abbrev pub AreFileLives : List ℕ → List FileLife → Type 0
AreFileLives from [] = Unit {0}
AreFileLives from (life ∷ lives) = IsFileLife from life × AreFileLives (taken life) lives

-- what is there after all of them
abbrev pub there_after : List ℕ → List FileLife → List ℕ
there_after from [] = from
there_after from (life ∷ lives) = there_after (taken life) lives

-- all that was kept in some life stands at the front
abbrev pub BeginsWithAllKept : List ℕ → List FileLife → Type 0
BeginsWithAllKept bytes [] = Unit {0}
BeginsWithAllKept bytes (life ∷ lives) = Begins life.kept bytes × BeginsWithAllKept bytes lives

-- each crash was the end of the program alone: it left a first part of what was there and what was to be added
abbrev pub EndWithTheProgram : List ℕ → List FileLife → Type 0
EndWithTheProgram from [] = Unit {0}
EndWithTheProgram from (life ∷ lives) = Begins life.left (from ++ life.added) × EndWithTheProgram (taken life) lives

-- the bytes are those at the beginning, and after them for each life a first part of what it was to add
abbrev pub AreParts : List ℕ → List FileLife → List ℕ → Type 0
AreParts from [] bytes = bytes ≡ from
AreParts from (life ∷ lives) bytes = (part : List ℕ) × Begins part life.added × AreParts (from ++ part) lives bytes
