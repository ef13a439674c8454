-- What is left of a text while it is compared with tokens, one behind the other.
use Rattle.std.specs.Prelude.{ℕ, Bool, false, nat_eq, ◌&&◌, if◌then◌else◌, List, [], ◌∷◌, ◌++◌, Option, None, Some}
use Rattle.std.specs.Prelude.{option_and_then}
use Rattle.bl_level.specs.Token.{Tok}
use Rattle.bl_level.specs.Canonical.{spelled, is_word}

-- what a text has after these bytes, if it begins with them
abbrev pub behind : List ℕ → List ℕ → Option (List ℕ)
behind [] text = Some text
behind (b ∷ bytes) [] = None
behind (b ∷ bytes) (c ∷ text) = if nat_eq b c then behind bytes text else None

-- what is left after these bytes
abbrev pub left_of : List ℕ → Option (List ℕ) → Option (List ℕ)
left_of bytes text = option_and_then (behind bytes) text

-- what is left, nothing where the text did not go on with a token, and whether the last token was a word
pub record Matched : Type 0 where
  pub rest : Option (List ℕ)
  pub word : Bool

abbrev pub nothing_matched : List ℕ → Matched
nothing_matched text = record { rest = Some text; word = false }

-- one more token, with a space before it where one word follows another
abbrev pub matched : Matched → Tok → Matched
matched m t = record {
  rest = left_of ((if m.word && is_word t then 32 ∷ [] else []) ++ spelled t) m.rest;
  word = is_word t;
}
