-- The canonical text of a line: the bytes of its tokens, with one space between two words that follow each other and no
-- other blank, with no `else` before a body of no statements, and with the categories of a level in the scheme's order.
use Rattle.std.specs.Prelude.{◌≡◌, ◌≢◌, ℕ, List}
use Rattle.bl_level.specs.Canonical.{canonical}
use Rattle.bl_level.specs.Level.{SecurityLevel}
use Rattle.bl_level.specs.LevelText.{LevelText, text_of}
use Rattle.bl_level.specs.Scheme.{SchemeNames}
use Rattle.bl_work.specs.declared.asked.Line.{Line}
use Rattle.bl_work.specs.Grammar.{SpelledLine, hello, wait, when, rule, spell}
use Rattle.bl_work.specs.LineGrammar.{Means}
use Rattle.bl_work.specs.Names.{KnownNames}
use Rattle.bl_work.specs.Spelled.{SpelledBody, empty, show, say, add, set, copy, pour, if_then, if_else, spawn}
use Rattle.bl_work.specs.SpelledRules.{SpelledRule, give, rescind, current, classify, create, delete}
use Rattle.bl_write.specs.Unread.{unread_line}

-- no `else` stands before a body of no statements
abbrev pub IsTidy : SpelledBody → Type 0
IsTidy empty = Unit {0}
IsTidy (show document rest) = IsTidy rest
IsTidy (say words rest) = IsTidy rest
IsTidy (add document words rest) = IsTidy rest
IsTidy (set document words rest) = IsTidy rest
IsTidy (copy from to rest) = IsTidy rest
IsTidy (pour from to rest) = IsTidy rest
IsTidy (if_then document asks words then_body rest) = IsTidy then_body × IsTidy rest
IsTidy (if_else document asks words then_body else_body rest) = (else_body ≢ empty) × IsTidy then_body
    × IsTidy else_body × IsTidy rest
IsTidy (spawn first more body rest) = IsTidy body × IsTidy rest

-- the text is a level's canonical one: its categories stand in the scheme's order
abbrev pub IsInOrder : SchemeNames → LevelText → Type 0
IsInOrder scheme text = (level : SecurityLevel) × (text ≡ text_of scheme level)

-- the categories of a rule's level stand in the scheme's order
abbrev pub IsTidyRule : SchemeNames → SpelledRule → Type 0
IsTidyRule scheme (give subject document mode) = Unit {0}
IsTidyRule scheme (rescind subject document mode) = Unit {0}
IsTidyRule scheme (current level) = IsInOrder scheme level
IsTidyRule scheme (classify document level) = IsInOrder scheme level
IsTidyRule scheme (create document) = Unit {0}
IsTidyRule scheme (delete document) = Unit {0}

abbrev pub IsTidyLine : SchemeNames → SpelledLine → Type 0
IsTidyLine scheme (hello subject) = Unit {0}
IsTidyLine scheme wait = Unit {0}
IsTidyLine scheme (when first more body) = IsTidy body
IsTidyLine scheme (rule asked) = IsTidyRule scheme asked

-- the bytes are the canonical text of a tidy line that asks this, by these names
pub record IsCanonicalOf (names : KnownNames) (bytes : List ℕ) (asked : Line) : Type 0 where
  pub spelled : SpelledLine
  pub tidy : IsTidyLine names.scheme spelled
  pub means : Means names spelled asked
  pub text : bytes ≡ canonical (spell spelled)

-- the canonical text of the line that a line is read back as
abbrev pub canonical_line : KnownNames → Line → List ℕ
canonical_line names asked = canonical (spell (unread_line names asked))
