-- Which declarations are due, and what is due in a line.
use Rattle.std.specs.Prelude.{◌≡◌, ◌↔◌, ◌||◌, ℕ, Bool, true, false, is_some, List, [], ◌∷◌, ◌++◌, IsTrue}
use denote.Enum.Bare.{sameb}
use Rattle.bl_name.specs.contracts.token.Keyword as a_keyword
use Rattle.bl_name.specs.contracts.token.Sign as a_sign
use Rattle.bl_name.specs.declared.token.Keyword.{Keyword}
use Rattle.bl_name.specs.declared.token.Sign.{Sign}
use Rattle.bl_level.specs.Lexing.{Begins}
use Rattle.bl_level.specs.Token.{Tok, reserved, name, text, sign}
use Rattle.bl_work.specs.Letters.{mode_of}
use Rattle.bl_declare.specs.Declaration.{Declaration, ranks, categories, subject, document, allow, spell_declaration}
use Rattle.bl_due.specs.declared.due.Section.{Section}
use Rattle.bl_due.specs.declared.due.Section.TheVariants.{Ranks, Categories, Entries}
use Rattle.bl_due.specs.declared.due.Due.{Due}
use Rattle.bl_due.specs.declared.due.Due.TheVariants as due

-- own choice, as the setup file's: the ranks are due first, then the categories, and then any of the others
abbrev pub IsDueIn : Section → Declaration → Type 0
IsDueIn Ranks (ranks lowest higher) = Unit {0}
IsDueIn Categories (categories words) = Unit {0}
IsDueIn Entries (subject s) = Unit {0}
IsDueIn Entries (document d) = Unit {0}
IsDueIn Entries (allow a) = Unit {0}
IsDueIn _ _ = ⊥

-- the line spells a declaration that is due
abbrev pub Spells : Section → List ℕ → Type 0
Spells section line = (d : Declaration) × IsDueIn section d × Begins line (spell_declaration d) []

-- the tokens are those of a declaration that is due
abbrev pub AreWhole : Section → List Tok → Type 0
AreWhole section tokens = (d : Declaration) × IsDueIn section d × (spell_declaration d ≡ tokens)

-- some declaration that is due begins with these tokens
abbrev pub GoOn : Section → List Tok → Type 0
GoOn section tokens = (more : List Tok) × AreWhole section (tokens ++ more)

-- the token is this word
abbrev pub is_word : Keyword → Tok → Bool
is_word word (reserved found) = sameb a_keyword.the_type found word
is_word word _ = false

abbrev pub is_name : Tok → Bool
is_name (name n) = true
is_name _ = false

-- a letter of a mode is spelled as a name
abbrev pub is_letter : Tok → Bool
is_letter (name n) = is_some (mode_of n)
is_letter _ = false

abbrev pub is_text : Tok → Bool
is_text (text x) = true
is_text _ = false

-- the token is this sign
abbrev pub is_sign : Sign → Tok → Bool
is_sign which (sign found) = sameb a_sign.the_type found which
is_sign which _ = false

-- what is due allows the token: it is this word or sign, or of this kind
abbrev pub allows : Due → Tok → Bool
allows (due.Word word) t = is_word word t
allows due.Name t = is_name t
allows due.Letter t = is_letter t
allows due.Text t = is_text t
allows (due.Sign which) t = is_sign which t
allows due.End t = false

-- one of these allows the token
abbrev pub is_allowed : List Due → Tok → Bool
is_allowed [] t = false
is_allowed (d ∷ ds) t = allows d t || is_allowed ds t

abbrev pub is_end : Due → Bool
is_end due.End = true
is_end _ = false

-- one of these is the line's end
abbrev pub has_end : List Due → Bool
has_end [] = false
has_end (d ∷ ds) = is_end d || has_end ds

-- Behind these tokens just those are due that some declaration of the section goes on with, and the end where one ends.
pub record AreDue (section : Section) (tokens : List Tok) (ds : List Due) : Type 0 where
  pub next : (t : Tok) → IsTrue (is_allowed ds t) ↔ GoOn section (tokens ++ t ∷ [])
  pub end : IsTrue (has_end ds) ↔ AreWhole section tokens
