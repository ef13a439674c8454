-- The machine takes exactly what goes on as a line.
use Rattle.std.proofs.Common.{◌≡◌, ◌≢◌, ℕ, Bool, true, false, cond, bytes_eq, List, [], ◌∷◌, ◌++◌, length, Option, Some, None, refl, sym, ap, subst, ◌∙◌, append_assoc, arith, rules}
use Rattle.std.proofs.lemmas.List.{append-nil}
use Rattle.std.proofs.lemmas.Slice.Eq.{bytes_eq-Decides}
use denote.Enum.Bare.{sameb, same_true}
use Rattle.bl_name.specs.contracts.token.Keyword as keyword
use Rattle.bl_name.specs.contracts.token.Sign as a_mark
use Rattle.bl_name.specs.declared.token.Keyword.{Keyword}
use Rattle.bl_name.specs.declared.token.Keyword.TheVariants.{Hello, Wait, Give, Rescind, Current, Classify, When, Read, Append, Write, Do, End, Show, Say, Add, Set, Copy, Pour, To, If, Is, Has, Then, Else, Spawn, Ranks, Categories, Subject, Greatest, Document, Allow, Trusted, Admin, Create, Delete, Reserve}
use Rattle.bl_name.specs.declared.token.Sign.{Sign}
use Rattle.bl_name.specs.declared.token.Sign.TheVariants.{Comma, Semicolon, Open, Close}
use Rattle.bl_level.specs.Token.{Tok, reserved, name, text, sign}
use Rattle.bl_level.specs.Lexing.{word_text}
use Rattle.bl_level.specs.LevelText.{LevelText, spell_categories, spell_level}
use Rattle.bl_level.specs.LevelText as of_level
use Rattle.bl_level.specs.Name.{IsName, AreProper}
use Rattle.bl_policy.specs.declared.access.Mode.{Mode}
use Rattle.bl_policy.specs.declared.access.Mode.TheVariants as mode
use Rattle.bl_work.specs.declared.script.Condition.{Condition}
use Rattle.bl_work.specs.declared.script.Condition.TheVariants as asks
use Rattle.bl_work.specs.Spelled.{SpelledAccess, SpelledBody, empty, show, say, add, set, copy, pour, if_then, if_else, spawn, mode_word, asks_word, spell_access, spell_more, spell_body}
use Rattle.bl_work.specs.SpelledRules.{SpelledRule, letter_of, give, rescind, current, classify, create, delete}
use Rattle.bl_work.specs.Grammar.{SpelledLine, hello, wait, when, rule, spell, CanGoOn}
use Rattle.bl_work.specs.Fault.{Blocks, FirstTokenAtFault}
use Rattle.bl_work.specs.Machine.{Due, word, a_sign, a_name, a_text, a_mode, is_or_has, more_accesses, a_body, rest_of_if, a_letter, rest_of_level, rest_of_categories, a_line, access_due, when_due, if_due, level_due, cell_due, statement_due, body_due, more_due, rest_due, mode_due, asks_due, mode_of, letter_taken, letter_due, categories_due, category_due, step, run, ends, Refuses, Stops, word_due, sign_due, name_due, text_due, line_due}

pub run_none : (ts : List Tok) → run None ts ≡ None
run_none [] = refl
run_none (t ∷ ts) = refl

pub run_append : (due : Option (List Due)) (xs ys : List Tok) → run due (xs ++ ys) ≡ run (run due xs) ys
run_append due [] ys = refl
run_append None (x ∷ xs) ys = sym (run_none ys)
run_append (Some due) (x ∷ xs) ys = run_append (step due x) xs ys

-- ---- what is spelled is taken

-- the tokens behind further accesses are part of their tokens
pub more_append : (accesses : List SpelledAccess) (xs ys : List Tok) → spell_more accesses xs ++ ys ≡ spell_more accesses (xs ++ ys)
more_append [] xs ys = refl
more_append (access ∷ accesses) xs ys = ap (λ ts. sign Comma ∷ spell_access access ts) (more_append accesses xs ys)

pub run_mode : (m : Mode) (due : List Due) (ts : List Tok) → run (Some (a_mode ∷ due)) (reserved (mode_word m) ∷ ts) ≡ run (Some due) ts
run_mode mode.Read due ts = refl
run_mode mode.Append due ts = refl
run_mode mode.Write due ts = refl

pub run_asks : (c : Condition) (due : List Due) (ts : List Tok) → run (Some (is_or_has ∷ due)) (reserved (asks_word c) ∷ ts) ≡ run (Some due) ts
run_asks asks.Is due ts = refl
run_asks asks.Has due ts = refl

pub run_access : (access : SpelledAccess) (due : List Due) (ts : List Tok) → run (Some (access_due due)) (spell_access access ts) ≡ run (Some due) ts
run_access access due ts = run_mode access.mode (a_name ∷ due) (name access.document ∷ ts)

pub run_more : (accesses : List SpelledAccess) (due : List Due) (ts : List Tok) → run (Some (more_accesses ∷ due)) (spell_more accesses ts) ≡ run (Some (more_accesses ∷ due)) ts
run_more [] due ts = refl
run_more (access ∷ accesses) due ts = run_access access (more_accesses ∷ due) (spell_more accesses ts) ∙ run_more accesses due ts

-- all that a `when` has before its body
pub run_accesses : (first : SpelledAccess) (more : List SpelledAccess) (due : List Due) (ts : List Tok)
    → run (Some (when_due due)) (spell_access first (spell_more more (reserved Do ∷ ts))) ≡ run (Some (a_body ∷ word End ∷ due)) ts
run_accesses first more due ts = run_access first _ (spell_more more (reserved Do ∷ ts)) ∙ run_more more _ (reserved Do ∷ ts)

-- all that an `if` has before its first body
pub run_test : (document : List ℕ) (c : Condition) (words : List ℕ) (due : List Due) (ts : List Tok)
    → run (Some (if_due due)) (name document ∷ reserved (asks_word c) ∷ text words ∷ reserved Then ∷ ts) ≡ run (Some due) ts
run_test document c words due ts = run_asks c (a_text ∷ word Then ∷ due) (text words ∷ reserved Then ∷ ts)

pub run_body : (b : SpelledBody) (due : List Due) (ts : List Tok) → run (Some (a_body ∷ due)) (spell_body b ++ ts) ≡ run (Some (a_body ∷ due)) ts
run_body empty due ts = refl
run_body (show document rest) due ts = run_body rest due ts
run_body (say words rest) due ts = run_body rest due ts
run_body (add document words rest) due ts = run_body rest due ts
run_body (set document words rest) due ts = run_body rest due ts
run_body (copy from to rest) due ts = run_body rest due ts
run_body (pour from to rest) due ts = run_body rest due ts
run_body (if_then document c words then_body rest) due ts =
    run_test document c words (a_body ∷ rest_of_if ∷ a_sign Semicolon ∷ a_body ∷ due) _
    ∙ ap (run (Some (a_body ∷ rest_of_if ∷ a_sign Semicolon ∷ a_body ∷ due))) (append_assoc (spell_body then_body) (reserved End ∷ sign Semicolon ∷ spell_body rest) ts)
    ∙ run_body then_body (rest_of_if ∷ a_sign Semicolon ∷ a_body ∷ due) (reserved End ∷ sign Semicolon ∷ spell_body rest ++ ts)
    ∙ run_body rest due ts
run_body (if_else document c words then_body else_body rest) due ts =
    run_test document c words (a_body ∷ rest_of_if ∷ a_sign Semicolon ∷ a_body ∷ due) _
    ∙ ap (run (Some (a_body ∷ rest_of_if ∷ a_sign Semicolon ∷ a_body ∷ due)))
    (append_assoc (spell_body then_body) (reserved Else ∷ (spell_body else_body ++ reserved End ∷ sign Semicolon ∷ spell_body rest)) ts)
    ∙ run_body then_body (rest_of_if ∷ a_sign Semicolon ∷ a_body ∷ due) (reserved Else ∷ ((spell_body else_body ++ reserved End ∷ sign Semicolon ∷ spell_body rest) ++ ts))
    ∙ ap (run (Some (a_body ∷ word End ∷ a_sign Semicolon ∷ a_body ∷ due))) (append_assoc (spell_body else_body) (reserved End ∷ sign Semicolon ∷ spell_body rest) ts)
    ∙ run_body else_body (word End ∷ a_sign Semicolon ∷ a_body ∷ due) (reserved End ∷ sign Semicolon ∷ spell_body rest ++ ts)
    ∙ run_body rest due ts
run_body (spawn first more body rest) due ts =
    ap (run (Some (a_body ∷ due)))
    (ap (λ x. reserved Spawn ∷ reserved When ∷ spell_access first x) (more_append more (reserved Do ∷ (spell_body body ++ reserved End ∷ sign Semicolon ∷ spell_body rest)) ts))
    ∙ run_accesses first more (a_sign Semicolon ∷ a_body ∷ due) ((spell_body body ++ reserved End ∷ sign Semicolon ∷ spell_body rest) ++ ts)
    ∙ ap (run (Some (a_body ∷ word End ∷ a_sign Semicolon ∷ a_body ∷ due))) (append_assoc (spell_body body) (reserved End ∷ sign Semicolon ∷ spell_body rest) ts)
    ∙ run_body body (word End ∷ a_sign Semicolon ∷ a_body ∷ due) (reserved End ∷ sign Semicolon ∷ spell_body rest ++ ts)
    ∙ run_body rest due ts

pub run_letter : (m : Mode) (due : List Due) (ts : List Tok) → run (Some (a_letter ∷ due)) (name (letter_of m) ∷ ts) ≡ run (Some due) ts
run_letter mode.Read due ts = refl
run_letter mode.Append due ts = refl
run_letter mode.Write due ts = refl

-- further categories, up to the closing brace
pub run_more_categories : (categories : List (List ℕ)) (due : List Due) (ts : List Tok) → run (Some (rest_of_categories ∷ due)) (of_level.spell_more categories ++ ts) ≡ run (Some due) ts
run_more_categories [] due ts = refl
run_more_categories (c ∷ categories) due ts = run_more_categories categories due ts

-- what may still come behind a level: the categories of one that has none
abbrev pub behind_level : List (List ℕ) → List Due
behind_level [] = rest_of_level ∷ []
behind_level (c ∷ categories) = []

pub run_categories : (categories : List (List ℕ)) (due : List Due) (ts : List Tok)
    → run (Some (rest_of_level ∷ due)) (spell_categories categories ++ ts) ≡ run (Some (behind_level categories ++ due)) ts
run_categories [] due ts = refl
run_categories (c ∷ categories) due ts = run_more_categories categories due ts

pub run_level : (level : LevelText) (due : List Due) (ts : List Tok)
    → run (Some (level_due due)) (spell_level level ++ ts) ≡ run (Some (behind_level level.categories ++ due)) ts
run_level level due ts = run_categories level.categories due ts

-- what may still come behind a line
abbrev pub behind_rule : SpelledRule → List Due
behind_rule (give subject document m) = []
behind_rule (rescind subject document m) = []
behind_rule (current level) = behind_level level.categories
behind_rule (classify document level) = behind_level level.categories
behind_rule (create document) = []
behind_rule (delete document) = []

abbrev pub behind_line : SpelledLine → List Due
behind_line (hello n) = []
behind_line wait = []
behind_line (when first more body) = []
behind_line (rule r) = behind_rule r

run_rule : (r : SpelledRule) (due : List Due) → run (Some (a_line ∷ due)) (spell (rule r)) ≡ Some (behind_rule r ++ due)
run_rule (give subject document m) due = run_letter m due []
run_rule (rescind subject document m) due = run_letter m due []
run_rule (current level) due = ap (run (Some (level_due due))) (sym (append-nil (spell_level level))) ∙ run_level level due []
run_rule (classify document level) due = ap (run (Some (level_due due))) (sym (append-nil (spell_level level))) ∙ run_level level due []
run_rule (create document) due = refl
run_rule (delete document) due = refl

pub run_line : (l : SpelledLine) (due : List Due) → run (Some (a_line ∷ due)) (spell l) ≡ Some (behind_line l ++ due)
run_line (rule r) due = run_rule r due
run_line (hello n) due = refl
run_line wait due = refl
run_line (when first more body) due =
    run_accesses first more due (spell_body body ++ reserved End ∷ []) ∙ run_body body (word End ∷ due) (reserved End ∷ [])

-- ---- what is taken can be completed to what is spelled

-- what may stand behind the first body of an `if`
pub data IfRest : Type 0 where
  no_else : IfRest
  with_else : SpelledBody → IfRest

abbrev pub spell_rest : IfRest → List Tok → List Tok
spell_rest no_else behind = reserved End ∷ behind
spell_rest (with_else b) behind = reserved Else ∷ (spell_body b ++ reserved End ∷ behind)

-- the tokens are these parts, one behind the other
abbrev pub Derives : List Due → List Tok → Type 0
Derives [] ts = ts ≡ []
Derives (word k ∷ due) ts = (more : List Tok) × (ts ≡ reserved k ∷ more) × Derives due more
Derives (a_sign s ∷ due) ts = (more : List Tok) × (ts ≡ sign s ∷ more) × Derives due more
Derives (a_name ∷ due) ts = (n : List ℕ) × (more : List Tok) × (ts ≡ name n ∷ more) × Derives due more
Derives (a_text ∷ due) ts = (n : List ℕ) × (more : List Tok) × (ts ≡ text n ∷ more) × Derives due more
Derives (a_mode ∷ due) ts = (m : Mode) × (more : List Tok) × (ts ≡ reserved (mode_word m) ∷ more) × Derives due more
Derives (is_or_has ∷ due) ts = (c : Condition) × (more : List Tok) × (ts ≡ reserved (asks_word c) ∷ more) × Derives due more
Derives (more_accesses ∷ due) ts = (accesses : List SpelledAccess) × (more : List Tok) × (ts ≡ spell_more accesses more) × Derives due more
Derives (a_body ∷ due) ts = (b : SpelledBody) × (more : List Tok) × (ts ≡ spell_body b ++ more) × Derives due more
Derives (rest_of_if ∷ due) ts = (r : IfRest) × (more : List Tok) × (ts ≡ spell_rest r more) × Derives due more
Derives (a_letter ∷ due) ts = (m : Mode) × (more : List Tok) × (ts ≡ name (letter_of m) ∷ more) × Derives due more
Derives (rest_of_level ∷ due) ts = (categories : List (List ℕ)) × (more : List Tok) × (ts ≡ spell_categories categories ++ more) × Derives due more
Derives (rest_of_categories ∷ due) ts = (categories : List (List ℕ)) × (more : List Tok) × (ts ≡ of_level.spell_more categories ++ more) × Derives due more
Derives (a_line ∷ due) ts = (l : SpelledLine) × (more : List Tok) × (ts ≡ spell l ++ more) × Derives due more

-- whatever is due can come
abbrev pub completion : List Due → List Tok
completion [] = []
completion (word k ∷ due) = reserved k ∷ completion due
completion (a_sign s ∷ due) = sign s ∷ completion due
completion (a_name ∷ due) = name (97 ∷ []) ∷ completion due
completion (a_text ∷ due) = text [] ∷ completion due
completion (a_mode ∷ due) = reserved Read ∷ completion due
completion (is_or_has ∷ due) = reserved Is ∷ completion due
completion (more_accesses ∷ due) = completion due
completion (a_body ∷ due) = completion due
completion (rest_of_if ∷ due) = reserved End ∷ completion due
completion (a_letter ∷ due) = name (97 ∷ []) ∷ completion due
completion (rest_of_level ∷ due) = completion due
completion (rest_of_categories ∷ due) = sign Close ∷ completion due
completion (a_line ∷ due) = reserved Wait ∷ completion due

pub completes : (due : List Due) → Derives due (completion due)
completes [] = refl
completes (word k ∷ due) = (_, refl, completes due)
completes (a_sign s ∷ due) = (_, refl, completes due)
completes (a_name ∷ due) = (_, _, refl, completes due)
completes (a_text ∷ due) = (_, _, refl, completes due)
completes (a_mode ∷ due) = (mode.Read, _, refl, completes due)
completes (is_or_has ∷ due) = (asks.Is, _, refl, completes due)
completes (more_accesses ∷ due) = ([], _, refl, completes due)
completes (a_body ∷ due) = (empty, _, refl, completes due)
completes (rest_of_if ∷ due) = (no_else, _, refl, completes due)
completes (a_letter ∷ due) = (mode.Append, _, refl, completes due)
completes (rest_of_level ∷ due) = ([], _, refl, completes due)
completes (rest_of_categories ∷ due) = ([], _, refl, completes due)
completes (a_line ∷ due) = (wait, _, refl, completes due)

-- no reserved word is `a`
a_is_free : (k : Keyword) → word_text k ≢ 97 ∷ []
a_is_free Hello e = cc
a_is_free Wait e = cc
a_is_free Give e = cc
a_is_free Rescind e = cc
a_is_free Current e = cc
a_is_free Classify e = cc
a_is_free When e = cc
a_is_free Read e = cc
a_is_free Append e = cc
a_is_free Write e = cc
a_is_free Do e = cc
a_is_free End e = cc
a_is_free Show e = cc
a_is_free Say e = cc
a_is_free Add e = cc
a_is_free Set e = cc
a_is_free Copy e = cc
a_is_free Pour e = cc
a_is_free To e = cc
a_is_free If e = cc
a_is_free Is e = cc
a_is_free Has e = cc
a_is_free Then e = cc
a_is_free Else e = cc
a_is_free Spawn e = cc
a_is_free Ranks e = cc
a_is_free Categories e = cc
a_is_free Subject e = cc
a_is_free Greatest e = cc
a_is_free Document e = cc
a_is_free Allow e = cc
a_is_free Trusted e = cc
a_is_free Admin e = cc
a_is_free Create e = cc
a_is_free Delete e = cc
a_is_free Reserve e = cc

a_is_name : IsName (97 ∷ [])
a_is_name = ((refl, refl, omega arith), a_is_free)

pub completion_is_proper : (due : List Due) → AreProper (completion due)
completion_is_proper [] = tt
completion_is_proper (word k ∷ due) = (tt, completion_is_proper due)
completion_is_proper (a_sign s ∷ due) = (tt, completion_is_proper due)
completion_is_proper (a_name ∷ due) = (a_is_name, completion_is_proper due)
completion_is_proper (a_text ∷ due) = (refl, completion_is_proper due)
completion_is_proper (a_mode ∷ due) = (tt, completion_is_proper due)
completion_is_proper (is_or_has ∷ due) = (tt, completion_is_proper due)
completion_is_proper (more_accesses ∷ due) = completion_is_proper due
completion_is_proper (a_body ∷ due) = completion_is_proper due
completion_is_proper (rest_of_if ∷ due) = (tt, completion_is_proper due)
completion_is_proper (a_letter ∷ due) = (a_is_name, completion_is_proper due)
completion_is_proper (rest_of_level ∷ due) = completion_is_proper due
completion_is_proper (rest_of_categories ∷ due) = (tt, completion_is_proper due)
completion_is_proper (a_line ∷ due) = (tt, completion_is_proper due)

-- ---- what is taken derives

word_case : (b : Bool) (w k : Keyword) → (b ≡ true → w ≡ k) → (due next : List Due) → cond b (Some due) None ≡ Some next → (ts : List Tok) → Derives next ts → Derives (word k ∷ due) (reserved w ∷ ts)
word_case true w k same due next e ts d = let q : next ≡ due = cc in (ts, ap (λ x. reserved x ∷ ts) (same refl), rw q at d)
word_case false w k same due next e ts d = absurd (cc)

word_step : (k : Keyword) (due : List Due) (t : Tok) (next : List Due) → word_due k t due ≡ Some next → (ts : List Tok) → Derives next ts → Derives (word k ∷ due) (t ∷ ts)
word_step k due (reserved w) next e ts d = word_case (sameb keyword.the_type w k) w k (same_true keyword.the_type (search rules) w k) due next e ts d
word_step k due _ next e ts d = absurd (cc)

sign_case : (b : Bool) (w k : Sign) → (b ≡ true → w ≡ k) → (due next : List Due) → cond b (Some due) None ≡ Some next → (ts : List Tok) → Derives next ts → Derives (a_sign k ∷ due) (sign w ∷ ts)
sign_case true w k same due next e ts d = let q : next ≡ due = cc in (ts, ap (λ x. sign x ∷ ts) (same refl), rw q at d)
sign_case false w k same due next e ts d = absurd (cc)

sign_step : (s : Sign) (due : List Due) (t : Tok) (next : List Due) → sign_due s t due ≡ Some next → (ts : List Tok) → Derives next ts → Derives (a_sign s ∷ due) (t ∷ ts)
sign_step s due (sign w) next e ts d = sign_case (sameb a_mark.the_type w s) w s (same_true a_mark.the_type (search rules) w s) due next e ts d
sign_step s due _ next e ts d = absurd (cc)

name_step : (due : List Due) (t : Tok) (next : List Due) → name_due t due ≡ Some next → (ts : List Tok) → Derives next ts → Derives (a_name ∷ due) (t ∷ ts)
name_step due (name n) next e ts d = let q : next ≡ due = cc in (n, ts, refl, rw q at d)
name_step due _ next e ts d = absurd (cc)

text_step : (due : List Due) (t : Tok) (next : List Due) → text_due t due ≡ Some next → (ts : List Tok) → Derives next ts → Derives (a_text ∷ due) (t ∷ ts)
text_step due (text n) next e ts d = let q : next ≡ due = cc in (n, ts, refl, rw q at d)
text_step due _ next e ts d = absurd (cc)

mode_step : (due : List Due) (t : Tok) (next : List Due) → mode_due t due ≡ Some next → (ts : List Tok) → Derives next ts → Derives (a_mode ∷ due) (t ∷ ts)
mode_step due (reserved Read) next e ts d = let q : next ≡ due = cc in (mode.Read, ts, refl, rw q at d)
mode_step due (reserved Append) next e ts d = let q : next ≡ due = cc in (mode.Append, ts, refl, rw q at d)
mode_step due (reserved Write) next e ts d = let q : next ≡ due = cc in (mode.Write, ts, refl, rw q at d)
mode_step due _ next e ts d = absurd (cc)

asks_step : (due : List Due) (t : Tok) (next : List Due) → asks_due t due ≡ Some next → (ts : List Tok) → Derives next ts → Derives (is_or_has ∷ due) (t ∷ ts)
asks_step due (reserved Is) next e ts d = let q : next ≡ due = cc in (asks.Is, ts, refl, rw q at d)
asks_step due (reserved Has) next e ts d = let q : next ≡ due = cc in (asks.Has, ts, refl, rw q at d)
asks_step due _ next e ts d = absurd (cc)

-- a letter is that of its mode
pub letter_is : (n : List ℕ) (m : Mode) → mode_of n ≡ Some m → n ≡ letter_of m
letter_is n m e = go (bytes_eq n (114 ∷ [])) (bytes_eq n (97 ∷ [])) (bytes_eq n (119 ∷ [])) refl refl refl e
  where
    go : (r a w : Bool) → bytes_eq n (114 ∷ []) ≡ r → bytes_eq n (97 ∷ []) ≡ a → bytes_eq n (119 ∷ []) ≡ w
        → cond r (Some mode.Read) (cond a (Some mode.Append) (cond w (Some mode.Write) None)) ≡ Some m → n ≡ letter_of m
    go true a w p q s f = let same : m ≡ mode.Read = cc in (bytes_eq-Decides n (114 ∷ [])).0 p ∙ ap letter_of (sym same)
    go false true w p q s f = let same : m ≡ mode.Append = cc in (bytes_eq-Decides n (97 ∷ [])).0 q ∙ ap letter_of (sym same)
    go false false true p q s f = let same : m ≡ mode.Write = cc in (bytes_eq-Decides n (119 ∷ [])).0 s ∙ ap letter_of (sym same)
    go false false false p q s f = absurd (cc)

letter_case : (n : List ℕ) (o : Option Mode) → mode_of n ≡ o → (due next : List Due) → letter_taken o due ≡ Some next → (ts : List Tok) → Derives next ts → Derives (a_letter ∷ due) (name n ∷ ts)
letter_case n (Some m) is due next e ts d = let q : next ≡ due = cc in (m, ts, ap (λ x. name x ∷ ts) (letter_is n m is), rw q at d)
letter_case n None is due next e ts d = absurd (cc)

letter_step : (due : List Due) (t : Tok) (next : List Due) → letter_due t due ≡ Some next → (ts : List Tok) → Derives next ts → Derives (a_letter ∷ due) (t ∷ ts)
letter_step due (name n) next e ts d = letter_case n (mode_of n) refl due next e ts d
letter_step due _ next e ts d = absurd (cc)

-- the first category of a level
derives_open : (due : List Due) (ts : List Tok) → Derives (a_name ∷ rest_of_categories ∷ due) ts → Derives (rest_of_level ∷ due) (sign Open ∷ ts)
derives_open due ts (n, m1, e1, (categories, more, e2, d)) = (n ∷ categories, more, cc, d)

level_step : (due : List Due) (t : Tok) (next : List Due) → categories_due t due (step due t) ≡ Some next
    → ((next : List Due) → step due t ≡ Some next → (ts : List Tok) → Derives next ts → Derives due (t ∷ ts))
    → (ts : List Tok) → Derives next ts → Derives (rest_of_level ∷ due) (t ∷ ts)
level_step due (sign Open) next e past ts d = let q : next ≡ (a_name ∷ rest_of_categories ∷ due) = cc in derives_open due ts (rw q at d)
level_step due t next e past ts d = ([], t ∷ ts, refl, past next e ts d)

-- one more category
derives_category : (due : List Due) (ts : List Tok) → Derives (a_name ∷ rest_of_categories ∷ due) ts → Derives (rest_of_categories ∷ due) (sign Comma ∷ ts)
derives_category due ts (n, m1, e1, (categories, more, e2, d)) = (n ∷ categories, more, cc, d)

category_step : (due : List Due) (t : Tok) (next : List Due) → category_due t due ≡ Some next → (ts : List Tok) → Derives next ts → Derives (rest_of_categories ∷ due) (t ∷ ts)
category_step due (sign Comma) next e ts d = let q : next ≡ (a_name ∷ rest_of_categories ∷ due) = cc in derives_category due ts (rw q at d)
category_step due (sign Close) next e ts d = let q : next ≡ due = cc in ([], ts, refl, rw q at d)
category_step due _ next e ts d = absurd (cc)

derives_else : (due : List Due) (ts : List Tok) → Derives (a_body ∷ word End ∷ due) ts → Derives (rest_of_if ∷ due) (reserved Else ∷ ts)
derives_else due ts (b, m, e, (m1, e1, d)) = (with_else b, m1, cc, d)

rest_step : (due : List Due) (t : Tok) (next : List Due) → rest_due t due ≡ Some next → (ts : List Tok) → Derives next ts → Derives (rest_of_if ∷ due) (t ∷ ts)
rest_step due (reserved End) next e ts d = let q : next ≡ due = cc in (no_else, ts, refl, rw q at d)
rest_step due (reserved Else) next e ts d = let q : next ≡ (a_body ∷ word End ∷ due) = cc in derives_else due ts (rw q at d)
rest_step due _ next e ts d = absurd (cc)

-- one more access
derives_comma : (due : List Due) (ts : List Tok) → Derives (access_due (more_accesses ∷ due)) ts → Derives (more_accesses ∷ due) (sign Comma ∷ ts)
derives_comma due ts (m, m1, e1, (n, m2, e2, (accesses, more, e3, d))) = (record { mode = m; document = n } ∷ accesses, more, cc, d)

more_step : (due : List Due) (t : Tok) (next : List Due) → more_due t due (step due t) ≡ Some next
    → ((next : List Due) → step due t ≡ Some next → (ts : List Tok) → Derives next ts → Derives due (t ∷ ts))
    → (ts : List Tok) → Derives next ts → Derives (more_accesses ∷ due) (t ∷ ts)
more_step due (sign Comma) next e past ts d = let q : next ≡ access_due (more_accesses ∷ due) = cc in derives_comma due ts (rw q at d)
more_step due t next e past ts d = ([], t ∷ ts, refl, past next e ts d)

derives_show : (due : List Due) (ts : List Tok) → Derives (a_name ∷ a_sign Semicolon ∷ a_body ∷ due) ts → Derives (a_body ∷ due) (reserved Show ∷ ts)
derives_show due ts (n, m1, e1, (m2, e2, (b, more, e3, d))) = (show n b, more, cc, d)

derives_say : (due : List Due) (ts : List Tok) → Derives (a_text ∷ a_sign Semicolon ∷ a_body ∷ due) ts → Derives (a_body ∷ due) (reserved Say ∷ ts)
derives_say due ts (x, m1, e1, (m2, e2, (b, more, e3, d))) = (say x b, more, cc, d)

derives_add : (due : List Due) (ts : List Tok) → Derives (a_name ∷ a_text ∷ a_sign Semicolon ∷ a_body ∷ due) ts → Derives (a_body ∷ due) (reserved Add ∷ ts)
derives_add due ts (n, m1, e1, (x, m2, e2, (m3, e3, (b, more, e4, d)))) = (add n x b, more, cc, d)

derives_set : (due : List Due) (ts : List Tok) → Derives (a_name ∷ a_text ∷ a_sign Semicolon ∷ a_body ∷ due) ts → Derives (a_body ∷ due) (reserved Set ∷ ts)
derives_set due ts (n, m1, e1, (x, m2, e2, (m3, e3, (b, more, e4, d)))) = (set n x b, more, cc, d)

derives_copy : (due : List Due) (ts : List Tok) → Derives (a_name ∷ word To ∷ a_name ∷ a_sign Semicolon ∷ a_body ∷ due) ts → Derives (a_body ∷ due) (reserved Copy ∷ ts)
derives_copy due ts (n, m1, e1, (m2, e2, (k, m3, e3, (m4, e4, (b, more, e5, d))))) = (copy n k b, more, cc, d)

derives_pour : (due : List Due) (ts : List Tok) → Derives (a_name ∷ word To ∷ a_name ∷ a_sign Semicolon ∷ a_body ∷ due) ts → Derives (a_body ∷ due) (reserved Pour ∷ ts)
derives_pour due ts (n, m1, e1, (m2, e2, (k, m3, e3, (m4, e4, (b, more, e5, d))))) = (pour n k b, more, cc, d)

derives_if : (due : List Due) (ts : List Tok) → Derives (if_due (a_body ∷ rest_of_if ∷ a_sign Semicolon ∷ a_body ∷ due)) ts → Derives (a_body ∷ due) (reserved If ∷ ts)
derives_if due ts (n, m1, e1, (c, m2, e2, (x, m3, e3, (m4, e4, (a, m5, e5, (no_else, m6, e6, (m7, e7, (b, more, e8, d)))))))) =
    (if_then n c x a b, more, cc (append_assoc (spell_body a) (reserved End ∷ sign Semicolon ∷ spell_body b) more), d)
derives_if due ts (n, m1, e1, (c, m2, e2, (x, m3, e3, (m4, e4, (a, m5, e5, (with_else a', m6, e6, (m7, e7, (b, more, e8, d)))))))) = (
  if_else n c x a a' b,
  more,
  cc (
    append_assoc (spell_body a) (reserved Else ∷ (spell_body a' ++ reserved End ∷ sign Semicolon ∷ spell_body b)) more,
    append_assoc (spell_body a') (reserved End ∷ sign Semicolon ∷ spell_body b) more,
  ),
  d,
)

derives_spawn : (due : List Due) (ts : List Tok) → Derives (word When ∷ when_due (a_sign Semicolon ∷ a_body ∷ due)) ts → Derives (a_body ∷ due) (reserved Spawn ∷ ts)
derives_spawn due ts (m0, e0, (m, m1, e1, (n, m2, e2, (accesses, m3, e3, (m4, e4, (a, m5, e5, (m6, e6, (m7, e7, (b, more, e8, d))))))))) = (
  spawn (record { mode = m; document = n }) accesses a b,
  more,
  cc (
    more_append accesses (reserved Do ∷ (spell_body a ++ reserved End ∷ sign Semicolon ∷ spell_body b)) more,
    append_assoc (spell_body a) (reserved End ∷ sign Semicolon ∷ spell_body b) more,
  ),
  d,
)

derives_statement : (t : Tok) (due next : List Due) → statement_due t ≡ Some next → (ts : List Tok) → Derives (next ++ a_body ∷ due) ts → Derives (a_body ∷ due) (t ∷ ts)
derives_statement (reserved Show) due next e ts d = let q : next ≡ (a_name ∷ a_sign Semicolon ∷ []) = cc in derives_show due ts (rw q at d)
derives_statement (reserved Say) due next e ts d = let q : next ≡ (a_text ∷ a_sign Semicolon ∷ []) = cc in derives_say due ts (rw q at d)
derives_statement (reserved Add) due next e ts d = let q : next ≡ (a_name ∷ a_text ∷ a_sign Semicolon ∷ []) = cc in derives_add due ts (rw q at d)
derives_statement (reserved Set) due next e ts d = let q : next ≡ (a_name ∷ a_text ∷ a_sign Semicolon ∷ []) = cc in derives_set due ts (rw q at d)
derives_statement (reserved Copy) due next e ts d = let q : next ≡ (a_name ∷ word To ∷ a_name ∷ a_sign Semicolon ∷ []) = cc in derives_copy due ts (rw q at d)
derives_statement (reserved Pour) due next e ts d = let q : next ≡ (a_name ∷ word To ∷ a_name ∷ a_sign Semicolon ∷ []) = cc in derives_pour due ts (rw q at d)
derives_statement (reserved If) due next e ts d = let q : next ≡ if_due (a_body ∷ rest_of_if ∷ a_sign Semicolon ∷ []) = cc in derives_if due ts (rw q at d)
derives_statement (reserved Spawn) due next e ts d = let q : next ≡ (word When ∷ when_due (a_sign Semicolon ∷ [])) = cc in derives_spawn due ts (rw q at d)
derives_statement _ due next e ts d = absurd (cc)

body_step : (o : Option (List Due)) (due : List Due) (t : Tok) → statement_due t ≡ o → (next : List Due) → body_due o due (step due t) ≡ Some next
    → ((next : List Due) → step due t ≡ Some next → (ts : List Tok) → Derives next ts → Derives due (t ∷ ts))
    → (ts : List Tok) → Derives next ts → Derives (a_body ∷ due) (t ∷ ts)
body_step (Some more) due t is next e past ts d = let q : next ≡ more ++ a_body ∷ due = cc in derives_statement t due more is ts (rw q at d)
body_step None due t is next e past ts d = (empty, t ∷ ts, refl, past next e ts d)

derives_hello : (due : List Due) (ts : List Tok) → Derives (a_name ∷ due) ts → Derives (a_line ∷ due) (reserved Hello ∷ ts)
derives_hello due ts (n, m, e, d) = (hello n, m, ap (λ x. reserved Hello ∷ x) e, d)

derives_when : (due : List Due) (ts : List Tok) → Derives (when_due due) ts → Derives (a_line ∷ due) (reserved When ∷ ts)
derives_when due ts (m, m1, e1, (n, m2, e2, (accesses, m3, e3, (m4, e4, (b, m5, e5, (more, e6, d)))))) = (
  when (record { mode = m; document = n }) accesses b,
  more,
  cc (
    more_append accesses (reserved Do ∷ (spell_body b ++ reserved End ∷ [])) more,
    append_assoc (spell_body b) (reserved End ∷ []) more,
  ),
  d,
)

derives_give : (due : List Due) (ts : List Tok) → Derives (cell_due due) ts → Derives (a_line ∷ due) (reserved Give ∷ ts)
derives_give due ts (s, m1, e1, (o, m2, e2, (m, more, e3, d))) = (rule (give s o m), more, cc, d)

derives_rescind : (due : List Due) (ts : List Tok) → Derives (cell_due due) ts → Derives (a_line ∷ due) (reserved Rescind ∷ ts)
derives_rescind due ts (s, m1, e1, (o, m2, e2, (m, more, e3, d))) = (rule (rescind s o m), more, cc, d)

derives_current : (due : List Due) (ts : List Tok) → Derives (level_due due) ts → Derives (a_line ∷ due) (reserved Current ∷ ts)
derives_current due ts (n, m1, e1, (categories, more, e2, d)) = (rule (current (record { rank = n; categories = categories })), more, cc, d)

derives_classify : (due : List Due) (ts : List Tok) → Derives (a_name ∷ level_due due) ts → Derives (a_line ∷ due) (reserved Classify ∷ ts)
derives_classify due ts (o, m1, e1, (n, m2, e2, (categories, more, e3, d))) =
    (rule (classify o (record { rank = n; categories = categories })), more, cc, d)

derives_create : (due : List Due) (ts : List Tok) → Derives (a_name ∷ due) ts → Derives (a_line ∷ due) (reserved Create ∷ ts)
derives_create due ts (o, more, e, d) = (rule (create o), more, ap (λ x. reserved Create ∷ x) e, d)

derives_delete : (due : List Due) (ts : List Tok) → Derives (a_name ∷ due) ts → Derives (a_line ∷ due) (reserved Delete ∷ ts)
derives_delete due ts (o, more, e, d) = (rule (delete o), more, ap (λ x. reserved Delete ∷ x) e, d)

line_step : (due : List Due) (t : Tok) (next : List Due) → line_due t due ≡ Some next → (ts : List Tok) → Derives next ts → Derives (a_line ∷ due) (t ∷ ts)
line_step due (reserved Hello) next e ts d = let q : next ≡ (a_name ∷ due) = cc in derives_hello due ts (rw q at d)
line_step due (reserved Wait) next e ts d = let q : next ≡ due = cc in (wait, ts, refl, rw q at d)
line_step due (reserved When) next e ts d = let q : next ≡ when_due due = cc in derives_when due ts (rw q at d)
line_step due (reserved Give) next e ts d = let q : next ≡ cell_due due = cc in derives_give due ts (rw q at d)
line_step due (reserved Rescind) next e ts d = let q : next ≡ cell_due due = cc in derives_rescind due ts (rw q at d)
line_step due (reserved Current) next e ts d = let q : next ≡ level_due due = cc in derives_current due ts (rw q at d)
line_step due (reserved Classify) next e ts d = let q : next ≡ (a_name ∷ level_due due) = cc in derives_classify due ts (rw q at d)
line_step due (reserved Create) next e ts d = let q : next ≡ (a_name ∷ due) = cc in derives_create due ts (rw q at d)
line_step due (reserved Delete) next e ts d = let q : next ≡ (a_name ∷ due) = cc in derives_delete due ts (rw q at d)
line_step due _ next e ts d = absurd (cc)

pub derives_step : (due : List Due) (t : Tok) (next : List Due) → step due t ≡ Some next → (ts : List Tok) → Derives next ts → Derives due (t ∷ ts)
derives_step [] t next e ts d = absurd (cc)
derives_step (word k ∷ due) t next e ts d = word_step k due t next e ts d
derives_step (a_sign s ∷ due) t next e ts d = sign_step s due t next e ts d
derives_step (a_name ∷ due) t next e ts d = name_step due t next e ts d
derives_step (a_text ∷ due) t next e ts d = text_step due t next e ts d
derives_step (a_mode ∷ due) t next e ts d = mode_step due t next e ts d
derives_step (is_or_has ∷ due) t next e ts d = asks_step due t next e ts d
derives_step (more_accesses ∷ due) t next e ts d = more_step due t next e (derives_step due t) ts d
derives_step (a_body ∷ due) t next e ts d = body_step (statement_due t) due t refl next e (derives_step due t) ts d
derives_step (rest_of_if ∷ due) t next e ts d = rest_step due t next e ts d
derives_step (a_letter ∷ due) t next e ts d = letter_step due t next e ts d
derives_step (rest_of_level ∷ due) t next e ts d = level_step due t next e (derives_step due t) ts d
derives_step (rest_of_categories ∷ due) t next e ts d = category_step due t next e ts d
derives_step (a_line ∷ due) t next e ts d = line_step due t next e ts d

derives_on : (o : Option (List Due)) (due : List Due) (t : Tok) (ts us : List Tok) (next : List Due) → step due t ≡ o → run o ts ≡ Some next
    → ((first : List Due) → run (Some first) ts ≡ Some next → Derives first (ts ++ us)) → Derives due (t ∷ ts ++ us)
derives_on None due t ts us next is e more = let q : None ≡ Some next = sym (run_none ts) ∙ e in absurd (cc)
derives_on (Some first) due t ts us next is e more = derives_step due t first is (ts ++ us) (more first e)

-- what is left of a run that goes on derives from its beginning
derives_run : (ts : List Tok) (due next : List Due) → run (Some due) ts ≡ Some next → (us : List Tok) → Derives next us → Derives due (ts ++ us)
derives_run [] due next e us d = let q : next ≡ due = cc in rw q at d
derives_run (t ∷ ts) due next e us d = derives_on (step due t) due t ts us next refl e (λ first f. derives_run ts first next f us d)

-- ---- so the machine says what goes on

pub run_goes_on : (before : List Tok) (due : List Due) → run (Some (a_line ∷ [])) before ≡ Some due → CanGoOn before
run_goes_on before due e = go (derives_run before (a_line ∷ []) due e (completion due) (completes due))
  where
    go : Derives (a_line ∷ []) (before ++ completion due) → CanGoOn before
    go (l, more, f, none) = (l, completion due, sym (append-nil (spell l)) ∙ ap (λ x. spell l ++ x) (sym none) ∙ sym f, completion_is_proper due)

-- nothing has to come behind a line
level_over : (categories : List (List ℕ)) → ends (behind_level categories ++ []) ≡ true
level_over [] = refl
level_over (c ∷ categories) = refl

rule_over : (r : SpelledRule) → ends (behind_rule r ++ []) ≡ true
rule_over (give subject document m) = refl
rule_over (rescind subject document m) = refl
rule_over (current level) = level_over level.categories
rule_over (classify document level) = level_over level.categories
rule_over (create document) = refl
rule_over (delete document) = refl

line_over : (l : SpelledLine) → ends (behind_line l ++ []) ≡ true
line_over (hello n) = refl
line_over wait = refl
line_over (when first more body) = refl
line_over (rule r) = rule_over r

at_end : (due rest : List Due) → Some due ≡ Some rest → ends rest ≡ true → ends due ≡ false → ⊥
at_end due rest e over f = let q : due ≡ rest = cc in let r : ends rest ≡ false = rw q at f in absurd (cc)

pub refused_blocks : (before after : List Tok) → Refuses (run (Some (a_line ∷ [])) before) after → Blocks before after
refused_blocks before [] r = go (run (Some (a_line ∷ [])) before) refl r
  where
    go : (o : Option (List Due)) → run (Some (a_line ∷ [])) before ≡ o → Refuses o [] → (line : SpelledLine) → spell line ≡ before → ⊥
    go None e r line f = absurd r
    go (Some due) e r line f = at_end due (behind_line line ++ []) (sym e ∙ ap (run (Some (a_line ∷ []))) (sym f) ∙ run_line line []) (line_over line) r
refused_blocks before (t ∷ more) r = go (run (Some (a_line ∷ [])) before) refl r
  where
    go : (o : Option (List Due)) → run (Some (a_line ∷ [])) before ≡ o → Refuses o (t ∷ more) → CanGoOn (before ++ t ∷ []) → ⊥
    go None e r w = absurd r
    go (Some due) e r (line, rest, f, proper) =
        let taken : run (Some (a_line ∷ [])) (before ++ t ∷ rest) ≡ Some (behind_line line ++ []) = ap (run (Some (a_line ∷ []))) (sym (append_assoc before (t ∷ []) rest) ∙ sym f) ∙ run_line line [] in
        let refused : run (Some (a_line ∷ [])) (before ++ t ∷ rest) ≡ None = run_append (Some (a_line ∷ [])) before (t ∷ rest) ∙ ap (λ o. run o (t ∷ rest)) e ∙ ap (λ o. run o rest) r ∙ run_none rest in
        absurd (cc)

goes_on_there : (before after : List Tok) → Refuses (run (Some (a_line ∷ [])) before) after → CanGoOn before
goes_on_there before after r = go (run (Some (a_line ∷ [])) before) refl r
  where
    go : (o : Option (List Due)) → run (Some (a_line ∷ [])) before ≡ o → Refuses o after → CanGoOn before
    go None e r = absurd r
    go (Some due) e r = run_goes_on before due e

pub fault_at : (tokens before after : List Tok) → tokens ≡ before ++ after → Refuses (run (Some (a_line ∷ [])) before) after → FirstTokenAtFault tokens (length after)
fault_at tokens before after split r = record {
  before = before;
  after = after;
  split = split;
  left_is = refl;
  goes_on = goes_on_there before after r;
  blocked = refused_blocks before after r;
}

pub first_fault : (tokens : List Tok) (left : ℕ) → Stops (a_line ∷ []) tokens left → FirstTokenAtFault tokens left
first_fault tokens left s = subst (FirstTokenAtFault tokens) s.left_is (fault_at tokens s.before s.after s.split (s.refused []))
