-- What stands at the front of a level's text.
use Rattle.std.specs.Prelude.{◌≡◌, ℕ, Bool, true, if◌then◌else◌, List, [], ◌∷◌, ◌++◌, Result, Err}
use Rattle.bl_level.specs.declared.level.Level.{Level}
use Rattle.bl_level.specs.declared.scheme.LevelFault.{LevelFault}
use Rattle.bl_level.specs.declared.scheme.LevelFault.TheVariants.{Syntax}
use Rattle.bl_name.specs.declared.token.Sign.TheVariants.{Close}
use Rattle.bl_name.specs.Token.{Tok, name, sign}
use Rattle.bl_name.specs.Lexing.{token, front, past_blanks, Begins}
use Rattle.bl_level.specs.Scheme.{SchemeNames}
use Rattle.bl_level.specs.LevelText.{LevelText, spell_more}
use Rattle.bl_level.specs.LevelFault.{Reads}

-- behind any blanks the token stands, and then comes the rest
abbrev pub StandsFirst : List ℕ → Tok → List ℕ → Type 0
StandsFirst bytes t rest = front (past_blanks bytes) ≡ token t rest

-- behind any blanks the closing brace stands, and nothing but blanks behind it
abbrev pub Closes : List ℕ → Type 0
Closes bytes = (rest : List ℕ) × StandsFirst bytes (sign Close) rest × ([] ≡ past_blanks rest)

-- the text with one more category
abbrev pub with_name : LevelText → List ℕ → LevelText
with_name text category = record { rank = text.rank; categories = text.categories ++ category ∷ [] }

-- the bytes list these categories, of which there is at least one, with commas between them, up to the closing brace
abbrev pub Lists : List ℕ → List (List ℕ) → Type 0
Lists bytes [] = ⊥
Lists bytes (category ∷ categories) = Begins bytes (name category ∷ spell_more categories) []

-- what is answered where a text was read so far and these bytes are still to be read
pub record ReadsOn (scheme : SchemeNames) (so_far : Result Level LevelFault) (bytes : List ℕ) (result : Result Level LevelFault) : Type 0 where
  pub reads : (text : LevelText) (categories : List (List ℕ)) → Reads scheme text so_far → Lists bytes categories
      → Reads scheme (record { rank = text.rank; categories = text.categories ++ categories }) result
  pub syntax : ((categories : List (List ℕ)) → Lists bytes categories → ⊥) → result ≡ Err Syntax

-- what is still to be written of a level's text: these categories, and the closing brace where one was opened
abbrev pub tail_of : Bool → List (List ℕ) → List ℕ
tail_of opened [] = if opened then 125 ∷ [] else []
tail_of opened (category ∷ categories) = ((if opened then 44 else 123) ∷ category) ++ tail_of true categories
