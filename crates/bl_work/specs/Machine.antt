-- What may still come, token by token: a stack of what is due. The grammar read as a machine, of which no public promise speaks.
use Rattle.std.specs.Prelude.{◌≡◌, ℕ, Bool, true, false, if◌then◌else◌, List, [], ◌∷◌, ◌++◌, length, Option, Some, None}
use denote.Enum.Bare.{sameb}
use Rattle.bl_name.specs.contracts.token.Keyword as keyword
use Rattle.bl_name.specs.contracts.token.Sign as a_mark
use Rattle.bl_name.specs.declared.token.Keyword.{Keyword}
use Rattle.bl_name.specs.declared.token.Keyword.TheVariants.{Hello, Wait, Give, Rescind, Current, Classify, Create, Delete, When, Read, Append, Write, Do, End, Show, Say, Add, Set, Copy, Pour, To, If, Is, Has, Then, Else, Spawn}
use Rattle.bl_name.specs.declared.token.Sign.{Sign}
use Rattle.bl_name.specs.declared.token.Sign.TheVariants.{Comma, Semicolon, Open, Close}
use Rattle.bl_level.specs.Token.{Tok, reserved, name, text, sign}
use Rattle.bl_policy.specs.declared.access.Mode.{Mode}
pub use Rattle.bl_work.specs.Letters.{mode_of}

-- A part of a line that has to come. Of more accesses, of a body and of the rest of a level nothing has to come.
pub data Due : Type 0 where
  word : Keyword → Due
  a_sign : Sign → Due
  a_name : Due
  a_text : Due
  a_mode : Due
  is_or_has : Due
  more_accesses : Due
  a_body : Due
  rest_of_if : Due
  a_letter : Due
  rest_of_level : Due
  rest_of_categories : Due
  a_line : Due

-- an access, and then these
abbrev pub access_due : List Due → List Due
access_due more = a_mode ∷ a_name ∷ more

-- what is due behind `when`
abbrev pub when_due : List Due → List Due
when_due more = access_due (more_accesses ∷ word Do ∷ a_body ∷ word End ∷ more)

-- what is due behind `if`, up to its first body
abbrev pub if_due : List Due → List Due
if_due more = a_name ∷ is_or_has ∷ a_text ∷ word Then ∷ more

-- a level, and then these
abbrev pub level_due : List Due → List Due
level_due more = a_name ∷ rest_of_level ∷ more

-- what is due behind `give` and `rescind`
abbrev pub cell_due : List Due → List Due
cell_due more = a_name ∷ a_name ∷ a_letter ∷ more

-- what is due behind the first token of a statement, where it begins one
abbrev pub statement_due : Tok → Option (List Due)
statement_due (reserved Show) = Some (a_name ∷ a_sign Semicolon ∷ [])
statement_due (reserved Say) = Some (a_text ∷ a_sign Semicolon ∷ [])
statement_due (reserved Add) = Some (a_name ∷ a_text ∷ a_sign Semicolon ∷ [])
statement_due (reserved Set) = Some (a_name ∷ a_text ∷ a_sign Semicolon ∷ [])
statement_due (reserved Copy) = Some (a_name ∷ word To ∷ a_name ∷ a_sign Semicolon ∷ [])
statement_due (reserved Pour) = Some (a_name ∷ word To ∷ a_name ∷ a_sign Semicolon ∷ [])
statement_due (reserved If) = Some (if_due (a_body ∷ rest_of_if ∷ a_sign Semicolon ∷ []))
statement_due (reserved Spawn) = Some (word When ∷ when_due (a_sign Semicolon ∷ []))
statement_due _ = None

-- a statement and the rest of the body; or the body is over
abbrev pub body_due : Option (List Due) → List Due → Option (List Due) → Option (List Due)
body_due (Some more) due next = Some (more ++ a_body ∷ due)
body_due None due next = next

-- one more access behind a comma; or there are no more
abbrev pub more_due : Tok → List Due → Option (List Due) → Option (List Due)
more_due (sign Comma) due next = Some (access_due (more_accesses ∷ due))
more_due _ due next = next

abbrev pub rest_due : Tok → List Due → Option (List Due)
rest_due (reserved End) due = Some due
rest_due (reserved Else) due = Some (a_body ∷ word End ∷ due)
rest_due _ due = None

-- categories in braces; or there are none
abbrev pub categories_due : Tok → List Due → Option (List Due) → Option (List Due)
categories_due (sign Open) due next = Some (a_name ∷ rest_of_categories ∷ due)
categories_due _ due next = next

-- one more category behind a comma; or the closing brace
abbrev pub category_due : Tok → List Due → Option (List Due)
category_due (sign Comma) due = Some (a_name ∷ rest_of_categories ∷ due)
category_due (sign Close) due = Some due
category_due _ due = None

-- behind a letter
abbrev pub letter_taken : Option Mode → List Due → Option (List Due)
letter_taken (Some m) due = Some due
letter_taken None due = None

abbrev pub letter_due : Tok → List Due → Option (List Due)
letter_due (name n) due = letter_taken (mode_of n) due
letter_due _ due = None

abbrev pub mode_due : Tok → List Due → Option (List Due)
mode_due (reserved Read) due = Some due
mode_due (reserved Append) due = Some due
mode_due (reserved Write) due = Some due
mode_due _ due = None

abbrev pub asks_due : Tok → List Due → Option (List Due)
asks_due (reserved Is) due = Some due
asks_due (reserved Has) due = Some due
asks_due _ due = None

abbrev pub word_due : Keyword → Tok → List Due → Option (List Due)
word_due k (reserved w) due = if sameb keyword.the_type w k then Some due else None
word_due k _ due = None

abbrev pub sign_due : Sign → Tok → List Due → Option (List Due)
sign_due s (sign t) due = if sameb a_mark.the_type t s then Some due else None
sign_due s _ due = None

abbrev pub name_due : Tok → List Due → Option (List Due)
name_due (name n) due = Some due
name_due _ due = None

abbrev pub text_due : Tok → List Due → Option (List Due)
text_due (text n) due = Some due
text_due _ due = None

abbrev pub line_due : Tok → List Due → Option (List Due)
line_due (reserved Hello) due = Some (a_name ∷ due)
line_due (reserved Wait) due = Some due
line_due (reserved When) due = Some (when_due due)
line_due (reserved Give) due = Some (cell_due due)
line_due (reserved Rescind) due = Some (cell_due due)
line_due (reserved Current) due = Some (level_due due)
line_due (reserved Classify) due = Some (a_name ∷ level_due due)
line_due (reserved Create) due = Some (a_name ∷ due)
line_due (reserved Delete) due = Some (a_name ∷ due)
line_due _ due = None

-- what is due behind a token, where it may come
abbrev pub step : List Due → Tok → Option (List Due)
step [] t = None
step (word k ∷ due) t = word_due k t due
step (a_sign s ∷ due) t = sign_due s t due
step (a_name ∷ due) t = name_due t due
step (a_text ∷ due) t = text_due t due
step (a_mode ∷ due) t = mode_due t due
step (is_or_has ∷ due) t = asks_due t due
step (more_accesses ∷ due) t = more_due t due (step due t)
step (a_body ∷ due) t = body_due (statement_due t) due (step due t)
step (rest_of_if ∷ due) t = rest_due t due
step (a_letter ∷ due) t = letter_due t due
step (rest_of_level ∷ due) t = categories_due t due (step due t)
step (rest_of_categories ∷ due) t = category_due t due
step (a_line ∷ due) t = line_due t due

-- what is due behind these tokens, where they may come
abbrev pub run : Option (List Due) → List Tok → Option (List Due)
run due [] = due
run None (t ∷ ts) = None
run (Some due) (t ∷ ts) = run (step due t) ts

-- nothing has to come
abbrev pub ends : List Due → Bool
ends [] = true
ends (more_accesses ∷ due) = ends due
ends (a_body ∷ due) = ends due
ends (rest_of_level ∷ due) = ends due
ends _ = false

-- where these are due, the tokens do not go on, or end too early
abbrev pub Refuses : Option (List Due) → List Tok → Type 0
Refuses None ts = ⊥
Refuses (Some due) [] = ends due ≡ false
Refuses (Some due) (t ∷ ts) = step due t ≡ None

-- where these are due, and whatever behind them, the first token at fault is the one with so many tokens from it on
pub record Stops (want : List Due) (tokens : List Tok) (left : ℕ) : Type 0 where
  pub before : List Tok
  pub after : List Tok
  pub split : tokens ≡ before ++ after
  pub left_is : length after ≡ left
  pub refused : (due : List Due) → Refuses (run (Some (want ++ due)) before) after
