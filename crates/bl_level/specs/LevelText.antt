-- The text of a level, and which level it means in a scheme.
use Rattle.std.specs.Prelude.{◌≡◌, ◌↔◌, ◌==◌, ℕ, suc, if◌then◌else◌, slice_index_or, List, [], ◌∷◌, ◌++◌, All, Contains, Some}
use Rattle.bl_name.specs.declared.token.Sign.TheVariants.{Comma, Open, Close}
use Rattle.bl_name.specs.Token.{Tok, name, sign}
use Rattle.bl_name.specs.Lexing.{Begins}
use Rattle.bl_level.specs.Level.{SecurityLevel, HasCategory}
use Rattle.bl_name.specs.Table.{AreDistinct, place_of}
use Rattle.bl_level.specs.Scheme.{SchemeNames}
use Rattle.bl_name.specs.Canonical.{canonical}
use Rattle.std.specs.Int.{bit_at}

-- own choice: a level is written as the name of its rank and those of its categories
pub record LevelText : Type 0 where
  pub rank : List ℕ
  pub categories : List (List ℕ)

-- further categories, each behind a comma, and the closing brace
abbrev pub spell_more : List (List ℕ) → List Tok
spell_more [] = sign Close ∷ []
spell_more (category ∷ categories) = sign Comma ∷ name category ∷ spell_more categories

-- the categories in braces; none, no braces
abbrev pub spell_categories : List (List ℕ) → List Tok
spell_categories [] = []
spell_categories (category ∷ categories) = sign Open ∷ name category ∷ spell_more categories

-- the tokens of a level: `rank` or `rank{category,category}`
abbrev pub spell_level : LevelText → List Tok
spell_level text = name text.rank ∷ spell_categories text.categories

-- the bytes read as this text: blanks may stand between its tokens
abbrev pub ReadsAsLevel : List ℕ → LevelText → Type 0
ReadsAsLevel bytes text = Begins bytes (spell_level text) []

-- category k of the scheme is named in the text
abbrev pub IsNamed : SchemeNames → LevelText → ℕ → Type 0
IsNamed scheme text k = (category : List ℕ) × Contains text.categories category × (place_of category scheme.categories ≡ Some k)

-- The text means this level: its rank is the place of the name among the ranks, and its set is of the categories named,
-- each of which the scheme has and none of which is named twice.
pub record Means (scheme : SchemeNames) (text : LevelText) (level : SecurityLevel) : Type 0 where
  pub rank : place_of text.rank scheme.ranks ≡ Some level.rank
  pub known : All (Contains scheme.categories) text.categories
  pub distinct : AreDistinct text.categories
  pub categories : (k : ℕ) → HasCategory level k ↔ IsNamed scheme text k

-- This category stands in the text behind categories that the scheme has and that are not named twice.
pub record StandsBehind (scheme : SchemeNames) (text : LevelText) (before : List (List ℕ)) (category : List ℕ) : Type 0 where
  pub after : List (List ℕ)
  pub split : text.categories ≡ before ++ category ∷ after
  pub known : All (Contains scheme.categories) before
  pub distinct : AreDistinct before

-- the names of the level's categories, in the order of these names, of which the first is that of category k
abbrev pub held_names : SecurityLevel → ℕ → List (List ℕ) → List (List ℕ)
held_names level k [] = []
held_names level k (category ∷ categories) =
    if bit_at level.categories k == 1 then category ∷ held_names level (suc k) categories else held_names level (suc k) categories

-- own choice: the canonical text of a level names its categories in the scheme's order
abbrev pub text_of : SchemeNames → SecurityLevel → LevelText
text_of scheme level = record { rank = slice_index_or scheme.ranks level.rank []; categories = held_names level 0 scheme.categories }

-- the bytes of it
abbrev pub canonical_level : SchemeNames → SecurityLevel → List ℕ
canonical_level scheme level = canonical (spell_level (text_of scheme level))
