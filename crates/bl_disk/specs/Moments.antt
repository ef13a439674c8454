-- What stands at each moment of a call.
use Rattle.std.specs.Prelude.{◌≡◌, ℕ, List, ◌++◌, take}
use Rattle.std.specs.List.{AllByRecursion}
use Rattle.bl_disk.specs.File.{Begins, File, seen}

-- From one point to another a file stood at more moments, and each of them has P, with how it stands at last.
pub record Passes {D : Type 0} (now : D → File) (past : D → List File) (from to : D) (P : File → Type 0) : Type 0 where
  pub moments : List File
  pub longer : past to ≡ past from ++ moments
  pub each : AllByRecursion P moments
  pub last : P (now to)

-- While a text is added, what was kept stays kept, and a read returns what was there and a first part of the text.
pub record IsAdding (before : File) (text : List ℕ) (file : File) : Type 0 where
  pub kept : Begins before.kept file.kept
  pub part : List ℕ
  pub is_part : Begins part text
  pub there : seen file ≡ seen before ++ part

-- While a file is cut, what was kept of the bytes that stay is kept, and they stay.
pub record IsCutting (before : File) (len : ℕ) (file : File) : Type 0 where
  pub kept : Begins (take len before.kept) file.kept
  pub there : Begins (take len (seen before)) (seen file)

-- while a file is synced, what was kept stays kept
abbrev pub IsSyncing : File → File → Type 0
IsSyncing before file = Begins before.kept file.kept
