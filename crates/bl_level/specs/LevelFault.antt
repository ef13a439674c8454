-- Why a text means no level in a scheme.
use Rattle.std.specs.Prelude.{◌≡◌, ℕ, List, Contains, Result, Ok, MatchResult}
use Rattle.bl_level.specs.Level.{SecurityLevel}
use Rattle.bl_level.specs.Scheme.{SchemeNames}
use Rattle.bl_level.specs.LevelText.{LevelText, Means, StandsBehind, ReadsAsLevel, text_of}
use Rattle.bl_level.specs.declared.level.Level.{Level}
use Rattle.bl_level.specs.declared.scheme.LevelFault.{LevelFault}
use Rattle.bl_level.specs.declared.scheme.LevelFault.TheVariants.{Syntax, UnknownRank, UnknownCategory, RepeatedCategory}

-- The first fault of a text that is spelled as a level (own choice): the rank is asked before the categories, and each category,
-- from the left, whether it is known and whether it stood before.
abbrev pub IsLevelFault : SchemeNames → LevelText → LevelFault → Type 0
IsLevelFault scheme text Syntax = ⊥
IsLevelFault scheme text UnknownRank = Contains scheme.ranks text.rank → ⊥
IsLevelFault scheme text UnknownCategory =
    Contains scheme.ranks text.rank
    × ((before : List (List ℕ)) × (category : List ℕ) × StandsBehind scheme text before category × (Contains scheme.categories category → ⊥))
IsLevelFault scheme text RepeatedCategory =
    Contains scheme.ranks text.rank
    × ((before : List (List ℕ)) × (category : List ℕ) × StandsBehind scheme text before category × Contains before category)

-- what a text means in a scheme: a level, or its first fault
abbrev pub Reads : SchemeNames → LevelText → Result Level LevelFault → Type 0
Reads scheme text result = MatchResult result (Means scheme text) (IsLevelFault scheme text)

-- The bytes are spelled as the level's text, and whatever reads this text answers the level.
pub record IsReadBack (scheme : SchemeNames) (level : SecurityLevel) (bytes : List ℕ) : Type 0 where
  pub spelled : ReadsAsLevel bytes (text_of scheme level)
  pub same : (read : Result Level LevelFault) → Reads scheme (text_of scheme level) read → read ≡ Ok level
