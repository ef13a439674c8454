-- A session's input is cut into lines as a setup file is, and however it comes.
use Rattle.std.specs.Prelude.{◌≡◌, ◌≢◌, ℕ, List, ◌++◌, All}
pub use Rattle.bl_setup.specs.Lines.{onto, lines_of, without_cr, is_blank}

-- however the input goes on, these are its first lines, and then come those of what follows
abbrev pub AreLines : List ℕ → List (List ℕ) → Type 0
AreLines bytes lines = (more : List ℕ) → lines_of (bytes ++ more) ≡ lines ++ lines_of more

-- no byte is an LF
abbrev pub HasNoLf : List ℕ → Type 0
HasNoLf line = All (λ b. b ≢ 10) line
