-- The words of a start.
use Rattle.std.specs.Prelude.{Bool, true, false, ℕ, List, codes, Option, Some, None}
use Rattle.bl_work.specs.Names.{KnownNames}
use Rattle.bl_work.specs.declared.answer.Answer.{Answer}
use Rattle.bl_work.specs.declared.answer.Answer.TheVariants as answer
use Rattle.bl_wire.specs.Named.{NamesDenial}
use Rattle.bl_wire.specs.Replies.{answer_text}
use Rattle.bl_trail.specs.declared.text.Words.{Words}
use Rattle.bl_trail.specs.declared.text.Words.TheVariants.{Run, Rule, Denied}

-- the subject and the document of a denial have names
abbrev pub NamesWords : KnownNames → Words → Type 0
NamesWords names Run = Unit {0}
NamesWords names Rule = Unit {0}
NamesWords names (Denied denial) = NamesDenial names denial

abbrev pub words_text : KnownNames → Words → List ℕ
words_text names Run = codes " run"
words_text names Rule = codes " rule"
words_text names (Denied denial) = answer_text names (answer.Denied denial)

-- what a start says where its place has this answer; no start is of a lost place
abbrev pub words_of : Answer → Option Words
words_of (answer.Done shown) = Some Run
words_of answer.RuleDone = Some Rule
words_of (answer.Denied denial) = Some (Denied denial)
words_of answer.Lost = None

-- whether the place runs after a start with these words
abbrev pub words_run : Words → Bool
words_run Run = true
words_run Rule = false
words_run (Denied denial) = false
