-- Which bytes are words, names and texts.
use Rattle.std.specs.Prelude.{◌≢◌, ℕ, ◌≤◌, List, [], ◌∷◌, length, Bool, false, IsTrue}
use Rattle.std.specs.List.{list_all}
use Rattle.bl_name.specs.declared.token.Keyword.{Keyword}
use Rattle.bl_name.specs.Token.{Tok, reserved, name, text, sign}
use Rattle.bl_name.specs.Lexing.{is_word_byte, is_text_byte, is_letter, word_text}

-- the first byte is a lower-case letter
abbrev pub begins_with_letter : List ℕ → Bool
begins_with_letter [] = false
begins_with_letter (b ∷ bytes) = is_letter b

-- own choice: a word begins with a lower-case letter, is of lower-case letters, digits and `_`, and has at most 32 bytes
abbrev pub IsWord : List ℕ → Type 0
IsWord [] = ⊥
IsWord (b ∷ bytes) = IsTrue (is_letter b) × IsTrue (list_all is_word_byte (b ∷ bytes)) × (length (b ∷ bytes) ≤ 32)

-- a name is a word that is not reserved
abbrev pub IsName : List ℕ → Type 0
IsName bytes = IsWord bytes × ((k : Keyword) → word_text k ≢ bytes)

-- a token that some bytes spell: its name is a name, and its text is of bytes that a text holds
abbrev pub IsProper : Tok → Type 0
IsProper (reserved k) = Unit {0}
IsProper (name bytes) = IsName bytes
IsProper (text bytes) = IsTrue (list_all is_text_byte bytes)
IsProper (sign s) = Unit {0}

abbrev pub AreProper : List Tok → Type 0
AreProper [] = Unit {0}
AreProper (t ∷ ts) = IsProper t × AreProper ts
