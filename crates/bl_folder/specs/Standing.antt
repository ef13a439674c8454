-- What stands in the folder of a chain.
use Rattle.std.specs.Prelude.{◌≡◌, ◌≢◌, ◌≤◌, ◌+◌, ◌-◌, ℕ, List, Option, Some, None, IsSome}
use Rattle.bl_folder.specs.declared.name.FileKind.{FileKind}
use Rattle.bl_folder.specs.declared.name.RunFile.{RunFile}
use Rattle.bl_folder.specs.declared.span.RunSpan.{RunSpan}

-- own choice: what has the name of each file of a run: bytes, or nothing
abbrev pub Contents : Type 0
Contents = RunFile → Option (List ℕ)

-- the file of a run and a kind
abbrev pub file_at : ℕ → FileKind → RunFile
file_at run kind = record { run = run; kind = kind }

-- Of the lowest and the highest run the file stands there, and of each other one only between them; where there are as
-- many as there are numbers between, of each of these.
pub record IsSpan (there : Contents) (kind : FileKind) (span : RunSpan) : Type 0 where
  pub runs : (1 ≤ span.first) × (span.last ≤ 999999999)
  pub first : IsSome (there (file_at span.first kind))
  pub last : IsSome (there (file_at span.last kind))
  pub within : (run : ℕ) → IsSome (there (file_at run kind)) → (span.first ≤ run) × (run ≤ span.last)
  pub whole : span.count ≡ (span.last - span.first) + 1 → (run : ℕ) → span.first ≤ run → run ≤ span.last
      → IsSome (there (file_at run kind))

-- of these runs such a file stands there, or of none
abbrev pub IsSpanOf : Contents → FileKind → Option RunSpan → Type 0
IsSpanOf there kind None = (run : ℕ) → there (file_at run kind) ≡ None
IsSpanOf there kind (Some span) = IsSpan there kind span

-- Standing (own choice): what is found in the folder, and what is found there for certain after the end of the machine
pub record Standing : Type 0 where
  pub seen : Contents
  pub kept : Contents

-- A folder stands so that this holds.
pub record StandsSo {F : Type 0} (stands : F → Standing → Type 0) (folder : F) (P : Standing → Type 0) : Type 0 where
  pub standing : Standing
  pub is : stands folder standing
  pub so : P standing

-- all files but one are as they were, and what is kept of all is
pub record IsSameBut (file : RunFile) (before after : Standing) : Type 0 where
  pub others : (other : RunFile) → other ≢ file → after.seen other ≡ before.seen other
  pub kept : after.kept ≡ before.kept

-- and that one has these bytes, or is none
pub record Becomes (file : RunFile) (bytes : Option (List ℕ)) (before after : Standing) : Type 0 where
  pub same : IsSameBut file before after
  pub is : after.seen file ≡ bytes

-- all that is found is kept
pub record IsKept (before after : Standing) : Type 0 where
  pub seen : after.seen ≡ before.seen
  pub kept : after.kept ≡ before.seen
