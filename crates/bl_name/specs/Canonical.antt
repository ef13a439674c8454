-- The canonical text of tokens.
use Rattle.std.specs.Prelude.{ℕ, Bool, true, false, ◌&&◌, if◌then◌else◌, List, [], ◌∷◌, ◌++◌}
use Rattle.bl_name.specs.declared.token.Sign.{Sign}
use Rattle.bl_name.specs.declared.token.Sign.TheVariants.{Comma, Semicolon, Open, Close}
use Rattle.bl_name.specs.Token.{Tok, reserved, name, text, sign}
use Rattle.bl_name.specs.Lexing.{word_text}

-- the byte of a sign
abbrev pub sign_byte : Sign → ℕ
sign_byte Comma = 44
sign_byte Semicolon = 59
sign_byte Open = 123
sign_byte Close = 125

-- the bytes of a token
abbrev pub spelled : Tok → List ℕ
spelled (reserved k) = word_text k
spelled (name bytes) = bytes
spelled (text bytes) = 34 ∷ (bytes ++ 34 ∷ [])
spelled (sign s) = sign_byte s ∷ []

-- reserved words and names are words
abbrev pub is_word : Tok → Bool
is_word (reserved k) = true
is_word (name bytes) = true
is_word (text bytes) = false
is_word (sign s) = false

-- own choice: one space between two words that follow each other, and no other blank
abbrev pub gap : Tok → List Tok → List ℕ
gap t [] = []
gap t (u ∷ us) = if is_word t && is_word u then 32 ∷ [] else []

-- the bytes of tokens, one behind the other, with their gaps
abbrev pub canonical : List Tok → List ℕ
canonical [] = []
canonical (t ∷ ts) = spelled t ++ (gap t ts ++ canonical ts)
