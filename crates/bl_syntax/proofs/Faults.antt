-- A fault behind some tokens is a fault of the whole.
use Rattle.std.proofs.Common.{◌≡◌, ◌≢◌, ℕ, cond, List, [], ◌∷◌, ◌++◌, Some, None, Result, refl, sym, ap, subst, ◌∙◌, append_assoc}
use Rattle.std.specs.Result.{IsErrAnd}
use Rattle.std.proofs.lemmas.Result.{err_from_is_err_and}
use denote.Enum.Bare.{true_same}
use Rattle.bl_name.specs.contracts.token.Keyword as keyword
use Rattle.bl_name.specs.declared.token.Keyword.{Keyword}
use Rattle.bl_name.specs.declared.token.Keyword.TheVariants.{Hello, Give, Rescind, Current, Classify, Create, Delete, When, End, Else, Then}
use Rattle.bl_name.specs.declared.token.Sign.TheVariants.{Comma, Semicolon, Close}
use Rattle.bl_level.specs.Token.{Tok, reserved, name, text, sign}
use Rattle.bl_policy.specs.declared.access.Mode.{Mode}
use Rattle.bl_work.specs.declared.script.Condition.{Condition}
use Rattle.bl_syntax.specs.declared.raw.RawStatement.{RawStatement}
use Rattle.bl_work.specs.Spelled.{SpelledAccess, SpelledBody, mode_word, asks_word, spell_access, spell_more, spell_body}
use Rattle.bl_work.specs.Machine.{Due, word, a_sign, a_name, a_text, a_mode, is_or_has, more_accesses, a_body, rest_of_if, rest_of_categories, a_line, access_due, if_due, when_due, level_due, cell_due, category_due, sign_due, statement_due, body_due, more_due, rest_due, word_due, step, run, Refuses, Stops}
use Rattle.bl_syntax.specs.Parsing.{Gives, Faults, BeginsNone, IsNotAt, start_word, start_due, spell_statement}
use Rattle.bl_syntax.specs.declared.parse.Start.{Start}
use Rattle.bl_syntax.specs.declared.parse.Start.TheVariants as start
use Rattle.bl_syntax.specs.declared.stop.Stop.{Stop}
use Rattle.bl_syntax.specs.declared.stop.Stop.TheVariants.{Memory, At, Broken}
use Rattle.bl_work.proofs.Theory.{run_mode, run_asks, run_access, run_more, run_test, run_body}
use Rattle.bl_syntax.proofs.Spellings.{run_statement}

-- behind these tokens, that are due first, what is due next is due
stops_behind : (want next : List Due) (front rest tokens : List Tok) (left : ℕ) → tokens ≡ front ++ rest
    → ((due : List Due) (more : List Tok) → run (Some (want ++ due)) (front ++ more) ≡ run (Some (next ++ due)) more)
    → Stops next rest left → Stops want tokens left
stops_behind want next front rest tokens left e runs s = record {
  before = front ++ s.before;
  after = s.after;
  split = e ∙ ap (λ x. front ++ x) s.split ∙ sym (append_assoc front s.before s.after);
  left_is = s.left_is;
  refused = λ due. rw (runs due s.before) (s.refused due);
}

pub faults_behind : (want next : List Due) (front rest tokens : List Tok) (e : Stop) → tokens ≡ front ++ rest
    → ((due : List Due) (more : List Tok) → run (Some (want ++ due)) (front ++ more) ≡ run (Some (next ++ due)) more)
    → Faults next rest e → Faults want tokens e
faults_behind want next front rest tokens Memory split runs f = f
faults_behind want next front rest tokens (At left) split runs f = stops_behind want next front rest tokens left split runs f
faults_behind want next front rest tokens (Broken place) split runs f = absurd f

-- a fault of what is due first
pub first_due : (want more : List Due) (tokens : List Tok) (e : Stop) → Faults want tokens e → Faults (want ++ more) tokens e
first_due want more tokens Memory f = f
first_due want more tokens (Broken place) f = absurd f
first_due want more tokens (At left) s = record {
  before = s.before;
  after = s.after;
  split = s.split;
  left_is = s.left_is;
  refused = λ due. rw (append_assoc want more due) (s.refused (more ++ due));
}

pub behind_name : (want : List Due) (n : List ℕ) (rest tokens : List Tok) (e : Stop) → tokens ≡ name n ∷ rest → Faults want rest e → Faults (a_name ∷ want) tokens e
behind_name want n rest tokens e split f = faults_behind (a_name ∷ want) want (name n ∷ []) rest tokens e split (λ due more. refl) f

pub behind_text : (want : List Due) (n : List ℕ) (rest tokens : List Tok) (e : Stop) → tokens ≡ text n ∷ rest → Faults want rest e → Faults (a_text ∷ want) tokens e
behind_text want n rest tokens e split f = faults_behind (a_text ∷ want) want (text n ∷ []) rest tokens e split (λ due more. refl) f

pub behind_mode : (want : List Due) (m : Mode) (rest tokens : List Tok) (e : Stop) → tokens ≡ reserved (mode_word m) ∷ rest → Faults want rest e → Faults (a_mode ∷ want) tokens e
behind_mode want m rest tokens e split f = faults_behind (a_mode ∷ want) want (reserved (mode_word m) ∷ []) rest tokens e split (λ due more. run_mode m (want ++ due) more) f

pub behind_asks : (want : List Due) (c : Condition) (rest tokens : List Tok) (e : Stop) → tokens ≡ reserved (asks_word c) ∷ rest → Faults want rest e → Faults (is_or_has ∷ want) tokens e
behind_asks want c rest tokens e split f = faults_behind (is_or_has ∷ want) want (reserved (asks_word c) ∷ []) rest tokens e split (λ due more. run_asks c (want ++ due) more) f

pub behind_word : (k : Keyword) (want : List Due) (rest tokens : List Tok) (e : Stop) → tokens ≡ reserved k ∷ rest → Faults want rest e → Faults (word k ∷ want) tokens e
behind_word k want rest tokens e split f =
    faults_behind (word k ∷ want) want (reserved k ∷ []) rest tokens e split (λ due more. ap (λ b. run (cond b (Some (want ++ due)) None) more) (true_same keyword.the_type k k refl)) f

pub behind_access : (want : List Due) (a : SpelledAccess) (rest tokens : List Tok) (e : Stop) → tokens ≡ spell_access a rest → Faults want rest e → Faults (access_due want) tokens e
behind_access want a rest tokens e split f = faults_behind (access_due want) want (spell_access a []) rest tokens e split (λ due more. run_access a (want ++ due) more) f

-- the tokens of further accesses stand before what is behind them
spell_before : (accesses : List SpelledAccess) (ts : List Tok) → spell_more accesses ts ≡ spell_more accesses [] ++ ts
spell_before [] ts = refl
spell_before (a ∷ accesses) ts = ap (λ xs. sign Comma ∷ spell_access a xs) (spell_before accesses ts)

-- a fault in a later access
pub in_more : (want : List Due) (accesses : List SpelledAccess) (rest tokens : List Tok) (e : Stop) → tokens ≡ spell_more accesses rest
    → Faults (more_accesses ∷ want) rest e → Faults (more_accesses ∷ want) tokens e
in_more want accesses rest tokens e split f =
    faults_behind (more_accesses ∷ want) (more_accesses ∷ want) (spell_more accesses []) rest tokens e (split ∙ spell_before accesses rest)
    (λ due more. ap (run (Some (more_accesses ∷ want ++ due))) (sym (spell_before accesses more)) ∙ run_more accesses (want ++ due) more) f

pub behind_comma : (want : List Due) (rest tokens : List Tok) (e : Stop) → tokens ≡ sign Comma ∷ rest → Faults (access_due (more_accesses ∷ want)) rest e → Faults (more_accesses ∷ want) tokens e
behind_comma want rest tokens e split f = faults_behind (more_accesses ∷ want) (access_due (more_accesses ∷ want)) (sign Comma ∷ []) rest tokens e split (λ due more. refl) f

-- where no comma stands, a fault of what is due behind the accesses
not_comma : (t : Tok) (due : List Due) → t ≢ sign Comma → more_due t due (step due t) ≡ step due t
not_comma (sign Comma) due ne = absurd (ne refl)
not_comma _ due ne = refl

no_comma_refuses : (due : List Due) (before after : List Tok) → IsNotAt (sign Comma) (before ++ after) → Refuses (run (Some due) before) after → Refuses (run (Some (more_accesses ∷ due)) before) after
no_comma_refuses due [] [] ne r = r
no_comma_refuses due [] (t ∷ ts) ne r = not_comma t due ne ∙ r
no_comma_refuses due (t ∷ ts) after ne r = rw (not_comma t due ne) r

no_comma : (want : List Due) (tokens : List Tok) (e : Stop) → IsNotAt (sign Comma) tokens → Faults want tokens e → Faults (more_accesses ∷ want) tokens e
no_comma want tokens Memory ne f = f
no_comma want tokens (Broken place) ne f = absurd f
no_comma want tokens (At left) ne s = record {
  before = s.before;
  after = s.after;
  split = s.split;
  left_is = s.left_is;
  refused = λ due. no_comma_refuses (want ++ due) s.before s.after (subst (IsNotAt (sign Comma)) s.split ne) (s.refused due);
}

pub behind_more : (want : List Due) (accesses : List SpelledAccess) (rest tokens : List Tok) (e : Stop) → tokens ≡ spell_more accesses rest → IsNotAt (sign Comma) rest
    → Faults want rest e → Faults (more_accesses ∷ want) tokens e
behind_more want accesses rest tokens e split ne f = in_more want accesses rest tokens e split (no_comma want rest e ne f)

-- a fault behind all that an `if` has before its first body
pub behind_test : (want : List Due) (n : List ℕ) (c : Condition) (words : List ℕ) (rest tokens : List Tok) (e : Stop)
    → tokens ≡ name n ∷ reserved (asks_word c) ∷ text words ∷ reserved Then ∷ rest → Faults want rest e → Faults (if_due want) tokens e
behind_test want n c words rest tokens e split f =
    faults_behind (if_due want) want (name n ∷ reserved (asks_word c) ∷ text words ∷ reserved Then ∷ []) rest tokens e split (λ due more. run_test n c words (want ++ due) more) f

-- a fault in a later statement
in_body : (want : List Due) (b : SpelledBody) (rest tokens : List Tok) (e : Stop) → tokens ≡ spell_body b ++ rest → Faults (a_body ∷ want) rest e → Faults (a_body ∷ want) tokens e
in_body want b rest tokens e split f =
    faults_behind (a_body ∷ want) (a_body ∷ want) (spell_body b) rest tokens e split (λ due more. run_body b (want ++ due) more) f

-- where no statement begins, a fault of what is due behind the body
no_more_refuses : (due : List Due) (before after : List Tok) → BeginsNone (before ++ after) → Refuses (run (Some due) before) after → Refuses (run (Some (a_body ∷ due)) before) after
no_more_refuses due [] [] none r = r
no_more_refuses due [] (t ∷ ts) none r = ap (λ o. body_due o due (step due t)) none ∙ r
no_more_refuses due (t ∷ ts) after none r = rw none r

no_more : (want : List Due) (tokens : List Tok) (e : Stop) → BeginsNone tokens → Faults want tokens e → Faults (a_body ∷ want) tokens e
no_more want tokens Memory none f = f
no_more want tokens (Broken place) none f = absurd f
no_more want tokens (At left) none s = record {
  before = s.before;
  after = s.after;
  split = s.split;
  left_is = s.left_is;
  refused = λ due. no_more_refuses (want ++ due) s.before s.after (subst BeginsNone s.split none) (s.refused due);
}

pub behind_body : (want : List Due) (b : SpelledBody) (rest tokens : List Tok) (e : Stop) → tokens ≡ spell_body b ++ rest → BeginsNone rest → Faults want rest e → Faults (a_body ∷ want) tokens e
behind_body want b rest tokens e split none f = in_body want b rest tokens e split (no_more want rest e none f)

-- where no `else` stands, a fault at the `end` of an `if`
not_else : (t : Tok) (due : List Due) → t ≢ reserved Else → rest_due t due ≡ word_due End t due
not_else (reserved Else) due ne = absurd (ne refl)
not_else (reserved End) due ne = refl
not_else _ due ne = refl

no_else_refuses : (due : List Due) (before after : List Tok) → IsNotAt (reserved Else) (before ++ after) → Refuses (run (Some (word End ∷ due)) before) after → Refuses (run (Some (rest_of_if ∷ due)) before) after
no_else_refuses due [] [] ne r = r
no_else_refuses due [] (t ∷ ts) ne r = not_else t due ne ∙ r
no_else_refuses due (t ∷ ts) after ne r = rw (not_else t due ne) r

pub no_else : (want : List Due) (tokens : List Tok) (e : Stop) → IsNotAt (reserved Else) tokens → Faults (word End ∷ want) tokens e → Faults (rest_of_if ∷ want) tokens e
no_else want tokens Memory ne f = f
no_else want tokens (Broken place) ne f = absurd f
no_else want tokens (At left) ne s = record {
  before = s.before;
  after = s.after;
  split = s.split;
  left_is = s.left_is;
  refused = λ due. no_else_refuses (want ++ due) s.before s.after (subst (IsNotAt (reserved Else)) s.split ne) (s.refused due);
}

pub behind_else : (want : List Due) (rest tokens : List Tok) (e : Stop) → tokens ≡ reserved Else ∷ rest → Faults (a_body ∷ word End ∷ want) rest e → Faults (rest_of_if ∷ want) tokens e
behind_else want rest tokens e split f = faults_behind (rest_of_if ∷ want) (a_body ∷ word End ∷ want) (reserved Else ∷ []) rest tokens e split (λ due more. refl) f

behind_start : (t : Tok) (begins : List Due) (rest tokens : List Tok) (e : Stop) → statement_due t ≡ Some begins → tokens ≡ t ∷ rest → Faults (begins ++ a_body ∷ []) rest e → Faults (a_body ∷ []) tokens e
behind_start t begins rest tokens e starts split f =
    faults_behind (a_body ∷ []) (begins ++ a_body ∷ []) (t ∷ []) rest tokens e split (λ due more. ap (λ o. run (body_due o due (step due t)) more) starts ∙ ap (λ x. run (Some x) more) (sym (append_assoc begins (a_body ∷ []) due))) f

starts : (s : Start) → statement_due (reserved (start_word s)) ≡ Some (start_due s ++ a_sign Semicolon ∷ [])
starts start.Show = refl
starts start.Say = refl
starts start.Add = refl
starts start.Set = refl
starts start.Copy = refl
starts start.Pour = refl
starts start.If = refl
starts start.Spawn = refl

-- a fault in a statement, behind others
pub in_statement : (s : Start) (b : SpelledBody) (rest behind tokens : List Tok) (e : Stop) → tokens ≡ spell_body b ++ behind → behind ≡ reserved (start_word s) ∷ rest
    → Faults (start_due s) rest e → Faults (a_body ∷ []) tokens e
in_statement s b rest behind tokens e whole split f =
    in_body [] b behind tokens e whole
    (behind_start (reserved (start_word s)) _ rest behind e (starts s) split (first_due (start_due s ++ a_sign Semicolon ∷ []) (a_body ∷ []) rest e (first_due (start_due s) (a_sign Semicolon ∷ []) rest e f)))

-- a fault at the semicolon of a statement, behind others
pub behind_statement : (s : RawStatement) (b : SpelledBody) (rest behind tokens : List Tok) (e : Stop) → tokens ≡ spell_body b ++ behind → behind ≡ spell_statement s ++ rest
    → Faults (a_sign Semicolon ∷ []) rest e → Faults (a_body ∷ []) tokens e
behind_statement s b rest behind tokens e whole split f =
    in_body [] b behind tokens e whole
    (faults_behind (a_body ∷ []) (a_sign Semicolon ∷ a_body ∷ []) (spell_statement s) rest behind e split (λ due more. run_statement s due more)
    (first_due (a_sign Semicolon ∷ []) (a_body ∷ []) rest e f))

pub behind_hello : (want : List Due) (rest tokens : List Tok) (e : Stop) → tokens ≡ reserved Hello ∷ rest → Faults (a_name ∷ want) rest e → Faults (a_line ∷ want) tokens e
behind_hello want rest tokens e split f = faults_behind (a_line ∷ want) (a_name ∷ want) (reserved Hello ∷ []) rest tokens e split (λ due more. refl) f

pub behind_when : (want : List Due) (rest tokens : List Tok) (e : Stop) → tokens ≡ reserved When ∷ rest → Faults (when_due want) rest e → Faults (a_line ∷ want) tokens e
behind_when want rest tokens e split f = faults_behind (a_line ∷ want) (when_due want) (reserved When ∷ []) rest tokens e split (λ due more. refl) f

pub behind_give : (want : List Due) (rest tokens : List Tok) (e : Stop) → tokens ≡ reserved Give ∷ rest → Faults (cell_due want) rest e → Faults (a_line ∷ want) tokens e
behind_give want rest tokens e split f = faults_behind (a_line ∷ want) (cell_due want) (reserved Give ∷ []) rest tokens e split (λ due more. refl) f

pub behind_rescind : (want : List Due) (rest tokens : List Tok) (e : Stop) → tokens ≡ reserved Rescind ∷ rest → Faults (cell_due want) rest e → Faults (a_line ∷ want) tokens e
behind_rescind want rest tokens e split f = faults_behind (a_line ∷ want) (cell_due want) (reserved Rescind ∷ []) rest tokens e split (λ due more. refl) f

pub behind_current : (want : List Due) (rest tokens : List Tok) (e : Stop) → tokens ≡ reserved Current ∷ rest → Faults (level_due want) rest e → Faults (a_line ∷ want) tokens e
behind_current want rest tokens e split f = faults_behind (a_line ∷ want) (level_due want) (reserved Current ∷ []) rest tokens e split (λ due more. refl) f

pub behind_classify : (want : List Due) (rest tokens : List Tok) (e : Stop) → tokens ≡ reserved Classify ∷ rest → Faults (a_name ∷ level_due want) rest e → Faults (a_line ∷ want) tokens e
behind_classify want rest tokens e split f = faults_behind (a_line ∷ want) (a_name ∷ level_due want) (reserved Classify ∷ []) rest tokens e split (λ due more. refl) f

pub behind_create : (want : List Due) (rest tokens : List Tok) (e : Stop) → tokens ≡ reserved Create ∷ rest → Faults (a_name ∷ want) rest e → Faults (a_line ∷ want) tokens e
behind_create want rest tokens e split f = faults_behind (a_line ∷ want) (a_name ∷ want) (reserved Create ∷ []) rest tokens e split (λ due more. refl) f

pub behind_delete : (want : List Due) (rest tokens : List Tok) (e : Stop) → tokens ≡ reserved Delete ∷ rest → Faults (a_name ∷ want) rest e → Faults (a_line ∷ want) tokens e
behind_delete want rest tokens e split f = faults_behind (a_line ∷ want) (a_name ∷ want) (reserved Delete ∷ []) rest tokens e split (λ due more. refl) f

-- where no comma stands, a fault at the closing brace of a level
no_more_category : (t : Tok) (due : List Due) → t ≢ sign Comma → category_due t due ≡ sign_due Close t due
no_more_category (sign Comma) due ne = absurd (ne refl)
no_more_category (sign Close) due ne = refl
no_more_category _ due ne = refl

close_refuses : (due : List Due) (before after : List Tok) → IsNotAt (sign Comma) (before ++ after) → Refuses (run (Some (a_sign Close ∷ due)) before) after → Refuses (run (Some (rest_of_categories ∷ due)) before) after
close_refuses due [] [] ne r = r
close_refuses due [] (t ∷ ts) ne r = no_more_category t due ne ∙ r
close_refuses due (t ∷ ts) after ne r = rw (no_more_category t due ne) r

pub at_close : (want : List Due) (tokens : List Tok) (e : Stop) → IsNotAt (sign Comma) tokens → Faults (a_sign Close ∷ want) tokens e → Faults (rest_of_categories ∷ want) tokens e
at_close want tokens Memory ne f = f
at_close want tokens (Broken place) ne f = absurd f
at_close want tokens (At left) ne s = record {
  before = s.before;
  after = s.after;
  split = s.split;
  left_is = s.left_is;
  refused = λ due. close_refuses (want ++ due) s.before s.after (subst (IsNotAt (sign Comma)) s.split ne) (s.refused due);
}

-- a fault of a further category
pub behind_category_comma : (want : List Due) (rest tokens : List Tok) (e : Stop) → tokens ≡ sign Comma ∷ rest → Faults (a_name ∷ rest_of_categories ∷ want) rest e → Faults (rest_of_categories ∷ want) tokens e
behind_category_comma want rest tokens e split f =
    faults_behind (rest_of_categories ∷ want) (a_name ∷ rest_of_categories ∷ want) (sign Comma ∷ []) rest tokens e split (λ due more. refl) f

-- what the exit of a `?` answers
pub exits : {X : Type 0} (P : X → Type 0) (want : List Due) (tokens : List Tok) (r : Result X Stop) (e : Stop) → IsErrAnd r (λ y. y ≡ e) → Faults want tokens e → Gives P want tokens r
exits P want tokens r e is f = let p = err_from_is_err_and r is in rw (p.1, p.2) f
