-- What may be wrong with a rule that is spelled as it should be. Each fault is asked of the whole rule before the next.
use Rattle.std.specs.Prelude.{ℕ, List, [], ◌∷◌, map, All, Contains}
use Rattle.bl_level.specs.LevelText.{LevelText}
use Rattle.bl_level.specs.Table.{AreDistinct, IsFirstRepeated}
use Rattle.bl_work.specs.declared.asked.LineFault.{LineFault}
use Rattle.bl_work.specs.declared.asked.LineFault.TheVariants.{Unknown, Twice}
use Rattle.bl_read.specs.declared.rules.Role.{Role}
use Rattle.bl_read.specs.declared.rules.Role.TheVariants.{Subject, Document, Rank, Category}
use Rattle.bl_work.specs.First.{IsNameOfFirst}
use Rattle.bl_work.specs.Names.{KnownNames}
use Rattle.bl_work.specs.SpelledRules.{SpelledRule, give, rescind, current, classify, create, delete}

-- a name in a rule, with what its place asks it to be
pub record Mention : Type 0 where
  pub role : Role
  pub word : List ℕ

-- the name goes with its mention
abbrev pub mentioned : Mention → List ℕ
mentioned mention = mention.word

abbrev pub category_mention : List ℕ → Mention
category_mention category = record { role = Category; word = category }

-- the names that `give` and `rescind` have, from the left
abbrev pub right_mentions : List ℕ → List ℕ → List Mention
right_mentions subject document = record { role = Subject; word = subject } ∷ record { role = Document; word = document } ∷ []

-- the names in a level, from the left
abbrev pub mentions_in_level : LevelText → List Mention
mentions_in_level level = record { role = Rank; word = level.rank } ∷ map category_mention level.categories

-- the names in a rule, from the left
abbrev pub mentions_in : SpelledRule → List Mention
mentions_in (give subject document mode) = right_mentions subject document
mentions_in (rescind subject document mode) = right_mentions subject document
mentions_in (current level) = mentions_in_level level
mentions_in (classify document level) = record { role = Document; word = document } ∷ mentions_in_level level
mentions_in (create document) = record { role = Document; word = document } ∷ []
mentions_in (delete document) = record { role = Document; word = document } ∷ []

-- the categories of the level in a rule, from the left
abbrev pub categories_in : SpelledRule → List (List ℕ)
categories_in (give subject document mode) = []
categories_in (rescind subject document mode) = []
categories_in (current level) = level.categories
categories_in (classify document level) = level.categories
categories_in (create document) = []
categories_in (delete document) = []

-- the names of the server that are so
abbrev pub known_as : KnownNames → Role → List (List ℕ)
known_as names Subject = names.subjects
known_as names Document = names.documents
known_as names Rank = names.scheme.ranks
known_as names Category = names.scheme.categories

-- the name is what its place asks
abbrev pub IsKnown : KnownNames → Mention → Type 0
IsKnown names mention = Contains (known_as names mention.role) mention.word

-- a rule without a fault: each name is what its place asks, and no category stands twice in the level
pub record IsRuleFaultless (names : KnownNames) (rule : SpelledRule) : Type 0 where
  pub known : All (IsKnown names) (mentions_in rule)
  pub once : AreDistinct (categories_in rule)

-- The fault of a rule: the first name from the left that is not what its place asks; or, where each is, the first
-- category from the left that stands a second time in the level. It has no other.
abbrev pub IsFaultOfRule : KnownNames → SpelledRule → LineFault → Type 0
IsFaultOfRule names rule (Unknown name) = IsNameOfFirst (IsKnown names) mentioned (mentions_in rule) name
IsFaultOfRule names rule (Twice name) = All (IsKnown names) (mentions_in rule)
    × IsFirstRepeated (categories_in rule) name
IsFaultOfRule names rule _ = ⊥
