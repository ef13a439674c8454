-- Texts that are compared piece by piece.
use Rattle.std.specs.Prelude.{◌≡◌, ℕ, List, ◌++◌, Option, Some, None}

-- What is left of a text after a piece of it: what stands after the piece, and nothing where the text does not go on
-- with it.
abbrev pub IsLeft : Option (List ℕ) → List ℕ → Option (List ℕ) → Type 0
IsLeft None piece left = left ≡ None
IsLeft (Some text) piece None = (rest : List ℕ) → text ≡ piece ++ rest → ⊥
IsLeft (Some text) piece (Some rest) = text ≡ piece ++ rest
