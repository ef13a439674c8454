-- The first of a list for which something does not hold, in lists put together.
use Rattle.std.proofs.Common.{◌≡◌, ℕ, List, [], ◌∷◌, ◌++◌, Result, Ok, Err, MatchResult, refl, sym, ap, subst, ◌∙◌, append_assoc, append-nil, Bor}
use Rattle.std.specs.Prelude.{All}
use Rattle.std.proofs.lemmas.List.Elements.{All-cons, All-nil, All-append}
use Rattle.std.specs.Result.{IsErrAnd}
use Rattle.std.proofs.lemmas.Result.{err_from_is_err_and}
use Rattle.bl_work.specs.Spelled.{SpelledBody}
use Rattle.bl_syntax.specs.declared.raw.RawStatement.{RawStatement}
use Rattle.bl_work.specs.First.{IsNameOfFirst}

-- the answer of a search from the left: all hold, or the name of the first that does not
abbrev pub Finds : {X U : Type 0} (P : X → Type 0) (name_of : X → List ℕ) → List X → Result U (Bor (List ℕ)) → Type 0
Finds P name_of xs r = MatchResult r (λ _. All P xs) (λ name. IsNameOfFirst P name_of xs name.now)

pub all_one : {X : Type 0} (P : X → Type 0) (x : X) → P x → All P (x ∷ [])
all_one P x p = All-cons P x [] p (All-nil P)

-- the first of all is at fault
pub first_here : {X : Type 0} (P : X → Type 0) (name_of : X → List ℕ) (x : X) (xs : List X) → (P x → ⊥) → IsNameOfFirst P name_of (x ∷ xs) (name_of x)
first_here P name_of x xs fails = record {
  one = x;
  first = record { before = []; after = xs; split = refl; holds = All-nil P; fails = fails };
  name_is = refl;
}

-- the first of these is the first of all, where nothing before them is at fault
pub first_behind : {X : Type 0} (P : X → Type 0) (name_of : X → List ℕ) (xs ys : List X) (name : List ℕ) → All P xs → IsNameOfFirst P name_of ys name
    → IsNameOfFirst P name_of (xs ++ ys) name
first_behind P name_of xs ys name all f = record {
  one = f.one;
  first = record {
    before = xs ++ f.first.before;
    after = f.first.after;
    split = ap (λ l. xs ++ l) f.first.split ∙ sym (append_assoc xs f.first.before (f.one ∷ f.first.after));
    holds = All-append P xs f.first.before all f.first.holds;
    fails = f.first.fails;
  };
  name_is = f.name_is;
}

-- the first of these is the first of all, whatever stands behind them
pub first_before : {X : Type 0} (P : X → Type 0) (name_of : X → List ℕ) (xs ys : List X) (name : List ℕ) → IsNameOfFirst P name_of xs name
    → IsNameOfFirst P name_of (xs ++ ys) name
first_before P name_of xs ys name f = record {
  one = f.one;
  first = record {
    before = f.first.before;
    after = f.first.after ++ ys;
    split = ap (λ l. l ++ ys) f.first.split ∙ append_assoc f.first.before (f.one ∷ f.first.after) ys;
    holds = f.first.holds;
    fails = f.first.fails;
  };
  name_is = f.name_is;
}

-- a search goes on behind those that hold
pub finds_behind : {X U : Type 0} (P : X → Type 0) (name_of : X → List ℕ) (xs ys : List X) (r : Result U (Bor (List ℕ))) → All P xs → Finds P name_of ys r
    → Finds P name_of (xs ++ ys) r
finds_behind P name_of xs ys (Ok u) all found = All-append P xs ys all found
finds_behind P name_of xs ys (Err e) all found = first_behind P name_of xs ys e.now all found

pub finds_end : {X U : Type 0} (P : X → Type 0) (name_of : X → List ℕ) (xs : List X) (r : Result U (Bor (List ℕ))) → Finds P name_of xs r
    → Finds P name_of (xs ++ []) r
finds_end P name_of xs r found = subst (λ l. Finds P name_of l r) (sym (append-nil xs)) found

-- a search that stops early answers what it stopped at, whatever it would have found
pub leaves : {X U : Type 0} (Q : U → Type 0) (P : X → Type 0) (name_of : X → List ℕ) (xs : List X) (r : Result U (Bor (List ℕ))) (e : Bor (List ℕ)) → IsErrAnd r (λ y. y ≡ e)
    → IsNameOfFirst P name_of xs e.now → MatchResult r Q (λ name. IsNameOfFirst P name_of xs name.now)
leaves Q P name_of xs r e is f =
    let p = err_from_is_err_and r is in
    subst (λ z. MatchResult z Q (λ name. IsNameOfFirst P name_of xs name.now)) (sym (p.1 ∙ ap Err p.2)) f

pub exits : {X U : Type 0} (P : X → Type 0) (name_of : X → List ℕ) (xs : List X) (r : Result U (Bor (List ℕ))) (e : Bor (List ℕ)) → IsErrAnd r (λ y. y ≡ e)
    → IsNameOfFirst P name_of xs e.now → Finds P name_of xs r
exits P name_of xs r e is f = leaves (λ _. All P xs) P name_of xs r e is f

-- a search in a statement that is known to be this one
pub in_statement : {X U : Type 0} (F : List RawStatement → List X) (P : X → Type 0) (name_of : X → List ℕ) (s t : RawStatement) (r : Result U (Bor (List ℕ))) → s ≡ t
    → Finds P name_of (F (t ∷ [])) r → Finds P name_of (F (s ∷ [])) r
in_statement F P name_of s t r same found = subst (λ z. Finds P name_of (F (z ∷ [])) r) (sym same) found

-- a search in a body that is known to be this one
pub in_body : {X U : Type 0} (F : SpelledBody → List X) (P : X → Type 0) (name_of : X → List ℕ) (a b : SpelledBody) (r : Result U (Bor (List ℕ))) → a ≡ b
    → Finds P name_of (F b) r → Finds P name_of (F a) r
in_body F P name_of a b r same found = subst (λ z. Finds P name_of (F z) r) (sym same) found
