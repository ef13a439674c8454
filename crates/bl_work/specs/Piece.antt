-- Where one text stands in another.
use Rattle.std.specs.Prelude.{◌≡◌, ℕ, Bool, ◌||◌, nat_eq, List, [], ◌∷◌, ◌++◌}
use Rattle.std.specs.List.{starts_with}

-- the piece stands somewhere in the text, as one piece: something before it, and something after it
pub record StandsIn (piece text : List ℕ) : Type 0 where
  pub before : List ℕ
  pub after : List ℕ
  pub split : text ≡ before ++ (piece ++ after)

-- the test of it: the text begins with the piece, or the text behind its first byte has it
abbrev pub has_piece : List ℕ → List ℕ → Bool
has_piece [] piece = starts_with nat_eq [] piece
has_piece (b ∷ bytes) piece = starts_with nat_eq (b ∷ bytes) piece || has_piece bytes piece
