-- What each part of the parser answers.
use Rattle.std.specs.Prelude.{◌≡◌, ◌≢◌, ℕ, List, [], ◌∷◌, ◌++◌, map, Result, Ok, Err, None}
use Rattle.bl_name.specs.declared.token.Keyword.{Keyword}
use Rattle.bl_name.specs.declared.token.Keyword.TheVariants.{Hello, Wait, Give, Rescind, Current, Classify, Create, Delete, When, Do, End, Show, Say, Add, Set, Copy, Pour, To, If, Then, Else, Spawn}
use Rattle.bl_name.specs.declared.token.Sign.TheVariants.{Open}
use Rattle.bl_level.specs.Token.{Tok, reserved, name, text, sign}
use Rattle.bl_level.specs.Lexing.{Front}
use Rattle.bl_level.specs.FrontView.{front_view}
use Rattle.bl_syntax.specs.declared.parse.Cursor.{Cursor}
use Rattle.bl_syntax.specs.declared.parse.First.{First}
use Rattle.bl_syntax.specs.declared.parse.First.TheVariants as first
use Rattle.bl_syntax.specs.declared.parse.Start.{Start}
use Rattle.bl_syntax.specs.declared.parse.Start.TheVariants as start
use Rattle.bl_syntax.specs.declared.stop.Stop.{Stop}
use Rattle.bl_syntax.specs.declared.stop.Stop.TheVariants.{Memory, At, Broken}
use Rattle.bl_syntax.specs.declared.raw.RawStatement.{RawStatement}
use Rattle.bl_syntax.specs.declared.raw.RawStatement.TheVariants as raw
use Rattle.bl_work.specs.Fault.{FirstTokenAtFault, SyntaxFault}
use Rattle.bl_work.specs.Grammar.{SpelledLine, hello, wait, when, rule}
use Rattle.bl_work.specs.SpelledRules.{SpelledRule, give, rescind, current, classify, create, delete}
use Rattle.bl_work.specs.Machine.{Due, Stops, statement_due, if_due, when_due, word, a_name, a_text, a_body, rest_of_if}
use Rattle.bl_syntax.specs.RawBodies.{raw_access}
use Rattle.bl_work.specs.Spelled.{asks_word, spell_access, spell_more, spell_body}
use Rattle.bl_syntax.specs.Tokens.{tokens_of, tokens_from, end_from}

-- the tokens that are left
abbrev pub left : Cursor → List Tok
left c = tokens_from (front_view c.front)

-- what stands behind the tokens that are left: nothing, or a lexical fault
abbrev pub ending : Cursor → Front
ending c = end_from (front_view c.front)

-- A fault is the first where these are due; where memory runs out nothing is said. Before a line is over none tells what stands behind it.
abbrev pub Faults : List Due → List Tok → Stop → Type 0
Faults want tokens Memory = Unit {0}
Faults want tokens (At left) = Stops want tokens left
Faults want tokens (Broken place) = ⊥

-- what is found is so, and a fault is the first where these are due
abbrev pub Gives : {X : Type 0} → (X → Type 0) → List Due → List Tok → Result X Stop → Type 0
Gives P want tokens (Ok x) = P x
Gives P want tokens (Err e) = Faults want tokens e

-- A fault is the first of these bytes, which are to be a line: the first of their tokens at fault, or the place of a lexical fault.
-- Where memory runs out nothing is said.
abbrev pub IsFirstFault : List ℕ → Stop → Type 0
IsFirstFault bytes Memory = Unit {0}
IsFirstFault bytes (At left) = FirstTokenAtFault (tokens_of bytes) left
IsFirstFault bytes (Broken place) = SyntaxFault bytes place

-- the next token is not this one
abbrev pub IsNotAt : Tok → List Tok → Type 0
IsNotAt t [] = Unit {0}
IsNotAt t (u ∷ ts) = u ≢ t

-- no statement begins here
abbrev pub BeginsNone : List Tok → Type 0
BeginsNone [] = Unit {0}
BeginsNone (t ∷ ts) = statement_due t ≡ None

-- a level without categories is over where no brace opens
abbrev pub LevelEnds : List (List ℕ) → List Tok → Type 0
LevelEnds [] ts = IsNotAt (sign Open) ts
LevelEnds (category ∷ categories) ts = Unit {0}

-- where a rule ends with a level, the level is over
abbrev pub RuleEnds : SpelledRule → List Tok → Type 0
RuleEnds (give subject document mode) ts = Unit {0}
RuleEnds (rescind subject document mode) ts = Unit {0}
RuleEnds (current level) ts = LevelEnds level.categories ts
RuleEnds (classify document level) ts = LevelEnds level.categories ts
RuleEnds (create document) ts = Unit {0}
RuleEnds (delete document) ts = Unit {0}

abbrev pub LineEnds : SpelledLine → List Tok → Type 0
LineEnds (hello subject) ts = Unit {0}
LineEnds wait ts = Unit {0}
LineEnds (when first more body) ts = Unit {0}
LineEnds (rule asked) ts = RuleEnds asked ts

abbrev pub first_word : First → Keyword
first_word first.Hello = Hello
first_word first.Wait = Wait
first_word first.When = When
first_word first.Give = Give
first_word first.Rescind = Rescind
first_word first.Current = Current
first_word first.Classify = Classify
first_word first.Create = Create
first_word first.Delete = Delete

abbrev pub start_word : Start → Keyword
start_word start.Show = Show
start_word start.Say = Say
start_word start.Add = Add
start_word start.Set = Set
start_word start.Copy = Copy
start_word start.Pour = Pour
start_word start.If = If
start_word start.Spawn = Spawn

-- what is due behind the word that begins a statement, up to the semicolon
abbrev pub start_due : Start → List Due
start_due start.Show = a_name ∷ []
start_due start.Say = a_text ∷ []
start_due start.Add = a_name ∷ a_text ∷ []
start_due start.Set = a_name ∷ a_text ∷ []
start_due start.Copy = a_name ∷ word To ∷ a_name ∷ []
start_due start.Pour = a_name ∷ word To ∷ a_name ∷ []
start_due start.If = if_due (a_body ∷ rest_of_if ∷ [])
start_due start.Spawn = word When ∷ when_due []

-- the tokens of a statement, up to its semicolon
abbrev pub spell_statement : RawStatement → List Tok
spell_statement (raw.Show document) = reserved Show ∷ name document.now ∷ []
spell_statement (raw.Say words) = reserved Say ∷ text words.now ∷ []
spell_statement (raw.Add document words) = reserved Add ∷ name document.now ∷ text words.now ∷ []
spell_statement (raw.Set document words) = reserved Set ∷ name document.now ∷ text words.now ∷ []
spell_statement (raw.Copy from to) = reserved Copy ∷ name from.now ∷ reserved To ∷ name to.now ∷ []
spell_statement (raw.Pour from to) = reserved Pour ∷ name from.now ∷ reserved To ∷ name to.now ∷ []
spell_statement (raw.IfThen choice) =
    let c = choice.value in
    reserved If ∷ name c.document.now ∷ reserved (asks_word c.test) ∷ text c.text.now ∷ reserved Then
    ∷ (spell_body c.then_body ++ reserved End ∷ [])
spell_statement (raw.IfElse choice) =
    let c = choice.value in
    reserved If ∷ name c.document.now ∷ reserved (asks_word c.test) ∷ text c.text.now ∷ reserved Then
    ∷ (spell_body c.then_body ++ reserved Else ∷ (spell_body c.else_body ++ reserved End ∷ []))
spell_statement (raw.Spawn spawned) =
    let w = spawned.value in
    reserved Spawn ∷ reserved When
    ∷ spell_access (raw_access w.first) (spell_more (map raw_access w.more.items) (reserved Do ∷ (spell_body w.body ++ reserved End ∷ [])))
