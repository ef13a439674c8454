-- How a part of a line is read, by the token that stands first.
use Rattle.std.proofs.Common.{◌≡◌, ◌≢◌, ℕ, Bool, true, false, cond, List, [], ◌∷◌, ◌++◌, Some, None, refl, sym, ap, ◌∙◌, append_assoc, Result, MatchResult, MatchBool, rules, inl, inr}
use Rattle.std.specs.Borrow.{Bor}
use Rattle.std.specs.Result.{IsErrAnd}
use Rattle.std.proofs.lemmas.Result.{err_from_is_err_and}
use denote.Enum.Bare.{sameb, same_true}
use Rattle.bl_name.specs.contracts.token.Keyword.{the_type}
use Rattle.bl_name.specs.declared.token.Keyword.{Keyword}
use Rattle.bl_name.specs.declared.token.Sign.TheVariants.{Comma, Semicolon, Open, Close}
use Rattle.bl_level.specs.Token.{Tok, reserved, name, text, sign}
use Rattle.bl_policy.specs.declared.access.Mode.{Mode}
use Rattle.bl_declare.specs.Declaration.{Declaration}
use Rattle.bl_declare.specs.Reading.{Onward, ended, name_then, text_then, key_then, flag_then, names_then, mode_then, modes_then, more_then, categories_then, with_mode}
use Rattle.bl_declare.specs.declared.fault.SetupFaultKind.{SetupFaultKind}
use Rattle.bl_declare.specs.Faults.{OfSyntax}
use Rattle.bl_declare.specs.Words.{names_of}
use Rattle.bl_declare.specs.Parsing.{IsNotAt, IsNoName, IsNoText, IsNoMode, BeginsWithMode}

pub name_passes : (next : List ℕ → Onward) (n : List ℕ) (ts rest : List Tok) → ts ≡ name n ∷ rest → name_then next ts ≡ next n rest
unfolding name_then
name_passes next n ts rest e = rw e refl

pub name_fails : (next : List ℕ → Onward) (ts : List Tok) → IsNoName ts → name_then next ts ≡ None
unfolding name_then
name_fails next [] f = refl
name_fails next (reserved k ∷ ts) f = refl
name_fails next (name n ∷ ts) f = absurd f
name_fails next (text x ∷ ts) f = refl
name_fails next (sign s ∷ ts) f = refl

pub text_passes : (next : List ℕ → Onward) (x : List ℕ) (ts rest : List Tok) → ts ≡ text x ∷ rest → text_then next ts ≡ next x rest
unfolding text_then
text_passes next x ts rest e = rw e refl

pub text_fails : (next : List ℕ → Onward) (ts : List Tok) → IsNoText ts → text_then next ts ≡ None
unfolding text_then
text_fails next [] f = refl
text_fails next (reserved k ∷ ts) f = refl
text_fails next (name n ∷ ts) f = refl
text_fails next (text x ∷ ts) f = absurd f
text_fails next (sign s ∷ ts) f = refl

pub ended_at : (d : Declaration) (ts : List Tok) → ts ≡ [] → ended d ts ≡ Some d
unfolding ended
ended_at d ts e = rw e refl

pub ended_not : (d : Declaration) (ts : List Tok) → ts ≢ [] → ended d ts ≡ None
unfolding ended
ended_not d [] some = absurd (some refl)
ended_not d (t ∷ ts) some = refl

pub names_end : (next : List (List ℕ) → Onward) (ts : List Tok) → IsNoName ts → names_then next ts ≡ next [] ts
unfolding names_then
names_end next [] f = refl
names_end next (reserved k ∷ ts) f = refl
names_end next (name n ∷ ts) f = absurd f
names_end next (text x ∷ ts) f = refl
names_end next (sign s ∷ ts) f = refl

pub names_push : (items : List (Bor (List ℕ))) (n : Bor (List ℕ)) (ns : List (List ℕ)) → names_of items ++ n.now ∷ ns ≡ names_of (items ++ n ∷ []) ++ ns
names_push [] n ns = refl
names_push (x ∷ items) n ns = ap (λ ms. x.now ∷ ms) (names_push items n ns)

-- one name more, behind those that were read
pub names_step : (next : List (List ℕ) → Onward) (items : List (Bor (List ℕ))) (n : Bor (List ℕ)) (ts rest : List Tok) → ts ≡ name n.now ∷ rest
    → names_then (λ ns. next (names_of items ++ ns)) ts ≡ names_then (λ ns. next (names_of (items ++ n ∷ []) ++ ns)) rest
unfolding names_then
names_step next items n ts rest e =
    ap (names_then (λ ns. next (names_of items ++ ns))) e ∙ (λ i. names_then (λ ns. next (names_push items n ns i)) rest)

pub push_mode : (items : List Mode) (m : Mode) (ms : List Mode) → items ++ m ∷ ms ≡ (items ++ m ∷ []) ++ ms
push_mode items m ms = sym (append_assoc items (m ∷ []) ms)

pub mode_passes : (next : Mode → Onward) (m : Mode) (ts rest : List Tok) → BeginsWithMode ts m rest → mode_then next ts ≡ next m rest
unfolding mode_then
mode_passes next m ts rest (n, e, is) = ap (mode_then next) e ∙ ap (λ o. with_mode o (λ m. next m rest) None) is

pub mode_fails : (next : Mode → Onward) (ts : List Tok) → IsNoMode ts → mode_then next ts ≡ None
unfolding mode_then
mode_fails next [] f = refl
mode_fails next (reserved k ∷ ts) f = refl
mode_fails next (name n ∷ ts) f = ap (λ o. with_mode o (λ m. next m ts) None) f
mode_fails next (text x ∷ ts) f = refl
mode_fails next (sign s ∷ ts) f = refl

pub modes_end : (next : List Mode → Onward) (ts : List Tok) → IsNoMode ts → modes_then next ts ≡ next [] ts
unfolding modes_then
modes_end next [] f = refl
modes_end next (reserved k ∷ ts) f = refl
modes_end next (name n ∷ ts) f = ap (λ o. with_mode o (λ m. modes_then (λ ms. next (m ∷ ms)) ts) (next [] (name n ∷ ts))) f
modes_end next (text x ∷ ts) f = refl
modes_end next (sign s ∷ ts) f = refl

pub modes_step : (next : List Mode → Onward) (items : List Mode) (m : Mode) (ts rest : List Tok) → BeginsWithMode ts m rest
    → modes_then (λ ms. next (items ++ ms)) ts ≡ modes_then (λ ms. next ((items ++ m ∷ []) ++ ms)) rest
unfolding modes_then
modes_step next items m ts rest (n, e, is) =
    ap (modes_then (λ ms. next (items ++ ms))) e
    ∙ ap (λ o. with_mode o (λ m. modes_then (λ ms. next (items ++ m ∷ ms)) rest) (next (items ++ []) (name n ∷ rest))) is
    ∙ (λ i. modes_then (λ ms. next (push_mode items m ms i)) rest)

same_itself : (k : Keyword) → sameb the_type k k ≡ true
same_itself k = search rules

pub key_passes : (k : Keyword) (next : Onward) (ts rest : List Tok) → ts ≡ reserved k ∷ rest → key_then k next ts ≡ next rest
unfolding key_then
key_passes k next ts rest e = ap (key_then k next) e ∙ ap (λ b. cond b (next rest) None) (same_itself k)

other : (w k : Keyword) → w ≢ k → sameb the_type w k ≡ false
other w k ne = go (sameb the_type w k) refl
  where
    go : (b : Bool) → sameb the_type w k ≡ b → b ≡ false
    go true e = absurd (ne (same_true the_type (search rules) w k e))
    go false e = refl

pub key_fails : (k : Keyword) (next : Onward) (ts : List Tok) → IsNotAt (reserved k) ts → key_then k next ts ≡ None
unfolding key_then
key_fails k next [] f = refl
key_fails k next (reserved w ∷ ts) f = ap (λ b. cond b (next ts) None) (other w k (λ e. f (ap reserved e)))
key_fails k next (name n ∷ ts) f = refl
key_fails k next (text x ∷ ts) f = refl
key_fails k next (sign s ∷ ts) f = refl

pub flag_passes : (k : Keyword) (next : Bool → Onward) (ts rest : List Tok) → ts ≡ reserved k ∷ rest → flag_then k next ts ≡ next true rest
unfolding flag_then
flag_passes k next ts rest e = ap (flag_then k next) e ∙ ap (λ b. cond b (next true rest) (next false (reserved k ∷ rest))) (same_itself k)

pub flag_fails : (k : Keyword) (next : Bool → Onward) (ts : List Tok) → IsNotAt (reserved k) ts → flag_then k next ts ≡ next false ts
unfolding flag_then
flag_fails k next [] f = refl
flag_fails k next (reserved w ∷ ts) f = ap (λ b. cond b (next true ts) (next false (reserved w ∷ ts))) (other w k (λ e. f (ap reserved e)))
flag_fails k next (name n ∷ ts) f = refl
flag_fails k next (text x ∷ ts) f = refl
flag_fails k next (sign s ∷ ts) f = refl

-- a word that may stand there, as it was taken or not
pub flag_reads : (k : Keyword) (next : Bool → Onward) (b : Bool) (ts rest : List Tok)
    → MatchBool b (ts ≡ reserved k ∷ rest) ((rest ≡ ts) × IsNotAt (reserved k) ts) → flag_then k next ts ≡ next b rest
flag_reads k next true ts rest e = flag_passes k next ts rest e
flag_reads k next false ts rest e = flag_fails k next ts e.1 ∙ ap (next false) (sym e.0)

pub categories_none : (next : List (List ℕ) → Onward) (ts : List Tok) → IsNotAt (sign Open) ts → categories_then next ts ≡ next [] ts
unfolding categories_then
categories_none next [] f = refl
categories_none next (reserved k ∷ ts) f = refl
categories_none next (name n ∷ ts) f = refl
categories_none next (text x ∷ ts) f = refl
categories_none next (sign Comma ∷ ts) f = refl
categories_none next (sign Semicolon ∷ ts) f = refl
categories_none next (sign Open ∷ ts) f = absurd (f refl)
categories_none next (sign Close ∷ ts) f = refl

pub categories_open : (next : List (List ℕ) → Onward) (ts rest : List Tok) → ts ≡ sign Open ∷ rest
    → categories_then next ts ≡ name_then (λ c. more_then (λ cs. next (c ∷ cs))) rest
unfolding categories_then
categories_open next ts rest e = rw e refl

pub more_close : (next : List (List ℕ) → Onward) (ts rest : List Tok) → ts ≡ sign Close ∷ rest → more_then next ts ≡ next [] rest
unfolding more_then
more_close next ts rest e = rw e refl

-- one category more, behind those that were read
pub more_step : (next : List (List ℕ) → Onward) (items : List (Bor (List ℕ))) (n : Bor (List ℕ)) (ts behind rest : List Tok) → ts ≡ sign Comma ∷ behind → behind ≡ name n.now ∷ rest
    → more_then (λ ns. next (names_of items ++ ns)) ts ≡ more_then (λ ns. next (names_of (items ++ n ∷ []) ++ ns)) rest
unfolding more_then
more_step next items n ts behind rest e f =
    ap (more_then (λ ns. next (names_of items ++ ns))) (e ∙ ap (λ x. sign Comma ∷ x) f) ∙ (λ i. more_then (λ ns. next (names_push items n ns i)) rest)

comma_no_name : (next : List (List ℕ) → Onward) (behind : List Tok) → IsNoName behind → more_then next (sign Comma ∷ behind) ≡ None
unfolding more_then
comma_no_name next [] f = refl
comma_no_name next (reserved k ∷ ts) f = refl
comma_no_name next (name n ∷ ts) f = absurd f
comma_no_name next (text x ∷ ts) f = refl
comma_no_name next (sign s ∷ ts) f = refl

pub more_no_name : (next : List (List ℕ) → Onward) (ts behind : List Tok) → ts ≡ sign Comma ∷ behind → IsNoName behind → more_then next ts ≡ None
more_no_name next ts behind e f = ap (more_then next) e ∙ comma_no_name next behind f

pub more_fails : (next : List (List ℕ) → Onward) (ts : List Tok) → IsNotAt (sign Comma) ts → IsNotAt (sign Close) ts → more_then next ts ≡ None
unfolding more_then
more_fails next [] f g = refl
more_fails next (reserved k ∷ ts) f g = refl
more_fails next (name n ∷ ts) f g = refl
more_fails next (text x ∷ ts) f g = refl
more_fails next (sign Comma ∷ ts) f g = absurd (f refl)
more_fails next (sign Semicolon ∷ ts) f g = refl
more_fails next (sign Open ∷ ts) f g = refl
more_fails next (sign Close ∷ ts) f g = absurd (g refl)

pub of_syntax : {P Q : Type 0} {e : SetupFaultKind} → (P → Q) → OfSyntax e P → OfSyntax e Q
of_syntax f (inl m) = inl m
of_syntax f (inr s) = inr (s.0, f s.1)

-- the exit of a `?`
pub exits : {X E : Type 0} (P : X → Type 0) (Q : E → Type 0) (r : Result X E) (e : E) → IsErrAnd r (λ y. y ≡ e) → Q e → MatchResult r P Q
exits P Q r e is q = let p = err_from_is_err_and r is in rw (p.1, p.2) q
