-- A file in two parts.
use Rattle.std.specs.Prelude.{◌≡◌, ◌≤◌, ◌⊎◌, ℕ, zero, suc, List, [], ◌∷◌, ◌++◌, length, Option, None, slice_get}
use Rattle.bl_setup.specs.Lines.{lines_of, file_lines, lines_read, without_cr}
use Rattle.bl_spot.specs.declared.cut.Parted.{Parted}

-- whatever stands behind these bytes, their lines are lines of their own
abbrev pub AreClosed : List ℕ → Type 0
AreClosed bytes = (more : List ℕ) → lines_of (bytes ++ more) ≡ lines_of bytes ++ lines_of more

-- the bytes begin with this line, and with nothing else before the rest
pub record IsFirstLine (bytes line rest : List ℕ) : Type 0 where
  pub taken : List ℕ
  pub split : bytes ≡ taken ++ rest
  pub one : lines_of taken ≡ line ∷ []
  pub ends : AreClosed taken ⊎ (rest ≡ [])

-- the first of the lines, without its line end
abbrev pub BeginsWithLine : List ℕ → List ℕ → Type 0
BeginsWithLine bytes line = (lines : List (List ℕ)) × (file_lines bytes ≡ line ∷ lines)

-- The lines of the front are those before this number, unless nothing stands behind them; and so many of them are read.
pub record IsParted (bytes : List ℕ) (number : ℕ) (p : Parted) : Type 0 where
  pub split : bytes ≡ p.front.now ++ p.rest.now
  pub lines : file_lines bytes ≡ file_lines p.front.now ++ file_lines p.rest.now
  pub before : suc (length (file_lines p.front.now)) ≤ number
  pub counted : (number ≡ suc (length (file_lines p.front.now))) ⊎ (p.rest.now ≡ [])
  pub read : p.read ≡ length (lines_read p.front.now)

-- the line of this number of a file; they count from 1
abbrev pub line_at : List ℕ → ℕ → Option (List ℕ)
line_at bytes zero = None
line_at bytes (suc count) = slice_get (file_lines bytes) count
