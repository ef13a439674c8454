-- What is taken of bytes, token by token.
use Rattle.std.specs.Prelude.{◌≡◌, ℕ, Bool, false, List, [], ◌∷◌, ◌++◌}
use Rattle.bl_level.specs.Token.{Tok}
use Rattle.bl_level.specs.Lexing.{is_word_byte, token, front, past_blanks}

-- a byte of a word stands at the front
abbrev pub word_goes_on : List ℕ → Bool
word_goes_on [] = false
word_goes_on (b ∷ bytes) = is_word_byte b

-- the bytes are the word and the rest, and the word goes on no further
pub record IsCut (bytes word rest : List ℕ) : Type 0 where
  pub split : bytes ≡ word ++ rest
  pub ends : word_goes_on rest ≡ false

-- The bytes begin with these tokens, and the rest stands right behind the last of them: as `Begins`, without the blanks
-- behind it.
abbrev pub Takes : List ℕ → List Tok → List ℕ → Type 0
Takes bytes [] rest = rest ≡ bytes
Takes bytes (t ∷ ts) rest = (more : List ℕ) × (front (past_blanks bytes) ≡ token t more) × Takes more ts rest
