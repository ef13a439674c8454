-- The tokens of a text with their places, up to its first lexical fault.
use Rattle.std.specs.Prelude.{◌≡◌, ℕ, ◌+◌, List, [], ◌∷◌, length, Option, Some, None}
use Rattle.bl_name.specs.Token.{Tok}
use Rattle.bl_name.specs.Lexing.{Front, nothing, token, broken, front, past_blanks}

-- behind the last token comes the end, with no place; or a fault, at this place
abbrev pub EndsAs : ℕ → Front → Option ℕ → Type 0
EndsAs total nothing place = place ≡ None
EndsAs total (broken from) place = (k : ℕ) × (place ≡ Some k) × (k + length from ≡ total)
EndsAs total (token t more) place = ⊥

-- Of a text of so many bytes, these bytes at its end are cut into these tokens with these places, and no more tokens:
-- a place counts the bytes before it, and the last one is that of a fault behind all the tokens.
abbrev pub Cut : ℕ → List ℕ → List Tok → List ℕ → Option ℕ → Type 0
Cut total bytes [] places fault = (places ≡ []) × EndsAs total (front (past_blanks bytes)) fault
Cut total bytes (t ∷ ts) places fault =
    (more : List ℕ) × (k : ℕ) × (ks : List ℕ) × (places ≡ k ∷ ks) × (front (past_blanks bytes) ≡ token t more)
    × (k + length (past_blanks bytes) ≡ total) × Cut total more ts ks fault
