-- The way back from a line to how it is spelled, and from a script to its `when`.
use Rattle.std.specs.Prelude.{ℕ, ◌+◌, ◌-◌, List, [], ◌∷◌, map, slice_index_or}
use Rattle.bl_name.specs.declared.token.Keyword.TheVariants.{Else}
use Rattle.bl_level.specs.LevelText.{text_of}
use Rattle.bl_level.specs.Token.{Tok, reserved}
use Rattle.bl_policy.specs.declared.access.Access.{Access}
use Rattle.bl_policy.specs.declared.access.Mode.TheVariants.{Read}
use Rattle.bl_policy.specs.declared.rule.Rule as asked_rule
use Rattle.bl_policy.specs.declared.rule.Rule.TheVariants as asked
use Rattle.bl_work.specs.Names.{KnownNames}
use Rattle.bl_work.specs.declared.asked.Line.{Line}
use Rattle.bl_work.specs.declared.asked.Line.TheVariants as line
use Rattle.bl_work.specs.declared.script.Condition.{Condition}
use Rattle.bl_work.specs.declared.work.Work.{Work}
use Rattle.bl_work.specs.declared.work.Work.TheVariants.{Behaviour, Rule}
use Rattle.bl_work.specs.Grammar.{SpelledLine, hello, wait, when, rule, spell}
use Rattle.bl_work.specs.Spelled.{SpelledAccess, SpelledBody, empty, show, say, add, set, copy, pour, if_then, if_else}
use Rattle.bl_work.specs.Spelled.{spawn, spell_body, spell_when}
use Rattle.bl_work.specs.SpelledRules.{SpelledRule, give, rescind, current, classify, create, delete}
use Rattle.bl_work.specs.Statements.{Statements, Nothing, Show, Say, Add, Set, Copy, Pour, If, Spawn, Part}

-- a `when` with all that stands in it
pub record SpelledWhen : Type 0 where
  pub first : SpelledAccess
  pub more : List SpelledAccess
  pub body : SpelledBody

-- what stands where there is none
abbrev pub no_when : SpelledWhen
no_when = record { first = record { mode = Read; document = [] }; more = []; body = empty }

-- the tokens of a `when`, by all that stands in it
abbrev pub tokens_of : SpelledWhen → List Tok
tokens_of spelled = spell_when spelled.first spelled.more spelled.body

-- the tokens of an `else`, where its body has a statement
abbrev pub spell_else : SpelledBody → List Tok
spell_else empty = []
spell_else body = reserved Else ∷ spell_body body

module _ (names : KnownNames) where
  -- the name of a document is the one at its place
  abbrev pub name_at : ℕ → List ℕ
  name_at doc = slice_index_or names.documents doc []

  abbrev pub unread_access : Access → SpelledAccess
  unread_access access = record { mode = access.mode; document = name_at access.doc }

  -- own choice: an `else` stands only before a body that has a statement
  abbrev pub unread_if : List ℕ → Condition → List ℕ → SpelledBody → SpelledBody → SpelledBody → SpelledBody
  unread_if document asks words then_body empty rest = if_then document asks words then_body rest
  unread_if document asks words then_body else_body rest = if_else document asks words then_body else_body rest

  -- the statements as they are spelled, where `below` gives the `when` of each spawned behaviour
  abbrev pub unread_body : (ℕ → SpelledWhen) → Statements → SpelledBody
  unread_body below Nothing = empty
  unread_body below (Show doc rest) = show (name_at doc) (unread_body below rest)
  unread_body below (Say text rest) = say text (unread_body below rest)
  unread_body below (Add doc text rest) = add (name_at doc) text (unread_body below rest)
  unread_body below (Set doc text rest) = set (name_at doc) text (unread_body below rest)
  unread_body below (Copy from to rest) = copy (name_at from) (name_at to) (unread_body below rest)
  unread_body below (Pour from to rest) = pour (name_at from) (name_at to) (unread_body below rest)
  unread_body below (If doc asks text then_body else_body rest) =
      unread_if (name_at doc) asks text (unread_body below then_body) (unread_body below else_body)
      (unread_body below rest)
  unread_body below (Spawn behaviour rest) =
      spawn (below behaviour).first (below behaviour).more (below behaviour).body (unread_body below rest)

  -- a behaviour declares one access or more
  abbrev pub unread_when : List Access → SpelledBody → SpelledWhen
  unread_when [] body = record no_when { body = body }
  unread_when (first ∷ more) body = record { first = unread_access first; more = map unread_access more; body = body }

  -- the `when` of each behaviour, for the behaviours from number k on: a spawn names a later one
  abbrev pub unread_from : ℕ → List Part → List SpelledWhen
  unread_from k [] = []
  unread_from k (part ∷ rest) =
      unread_when part.accesses
      (unread_body (λ j. slice_index_or (unread_from (k + 1) rest) (j - (k + 1)) no_when) part.body)
      ∷ unread_from (k + 1) rest

  -- the `when` of a behaviour, by its number
  abbrev pub unread_at : List Part → ℕ → SpelledWhen
  unread_at script k = slice_index_or (unread_from 0 script) k no_when

  -- the `when` of a script is that of its outermost behaviour
  abbrev pub unread : List Part → SpelledWhen
  unread script = unread_at script 0

  -- the name of a subject is the one at its place
  abbrev pub subject_at : ℕ → List ℕ
  subject_at subject = slice_index_or names.subjects subject []

  -- own choice: a level is spelled as its canonical text, with its categories in the scheme's order
  abbrev pub unread_rule : asked_rule.Rule → SpelledRule
  unread_rule (asked.Give subject doc mode) = give (subject_at subject) (name_at doc) mode
  unread_rule (asked.Rescind subject doc mode) = rescind (subject_at subject) (name_at doc) mode
  unread_rule (asked.Current level) = current (text_of names.scheme level)
  unread_rule (asked.Classify doc level) = classify (name_at doc) (text_of names.scheme level)
  unread_rule (asked.Create doc) = create (name_at doc)
  unread_rule (asked.Delete doc) = delete (name_at doc)

  -- the line, as it is spelled
  abbrev pub unread_line : Line → SpelledLine
  unread_line (line.Hello subject) = hello (slice_index_or names.subjects subject [])
  unread_line line.Wait = wait
  unread_line (line.Work (Behaviour script)) = when (unread script).first (unread script).more (unread script).body
  unread_line (line.Work (Rule asked)) = rule (unread_rule asked)

  -- the tokens of a work
  abbrev pub work_tokens : Work → List Tok
  work_tokens work = spell (unread_line (line.Work work))
