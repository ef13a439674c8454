-- A rule as it was read, seen as it is spelled.
use Rattle.std.specs.Prelude.{ℕ, List, map}
use Rattle.std.specs.Borrow.{Bor}
use Rattle.bl_level.specs.LevelText.{LevelText}
use Rattle.bl_work.specs.SpelledRules as spelled
use Rattle.bl_work.specs.SpelledRules.{SpelledRule}
use Rattle.bl_syntax.specs.declared.raw.RawLevel.{RawLevel}
use Rattle.bl_syntax.specs.declared.raw.RawRule.{RawRule}
use Rattle.bl_syntax.specs.declared.raw.RawRule.TheVariants.{Give, Rescind, Current, Classify, Create, Delete}

abbrev pub raw_names : List (Bor (List ℕ)) → List (List ℕ)
raw_names = map (λ n. n.now)

abbrev pub raw_level : RawLevel → LevelText
raw_level level = record { rank = level.rank.now; categories = raw_names level.categories.items }

abbrev pub raw_rule : RawRule → SpelledRule
raw_rule (Give right) = spelled.give right.subject.now right.document.now right.mode
raw_rule (Rescind right) = spelled.rescind right.subject.now right.document.now right.mode
raw_rule (Current level) = spelled.current (raw_level level)
raw_rule (Classify document level) = spelled.classify document.now (raw_level level)
raw_rule (Create document) = spelled.create document.now
raw_rule (Delete document) = spelled.delete document.now
