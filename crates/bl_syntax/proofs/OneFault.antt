-- A line has one first fault.
use Rattle.std.proofs.Common.{◌≡◌, ℕ, List, [], ◌∷◌, ◌++◌, ◌⊎◌, inl, inr, refl, sym, ap, subst, ◌∙◌, append_assoc, arith}
use Rattle.std.proofs.lemmas.List.{append-nil}
use Rattle.bl_level.specs.Token.{Tok}
use Rattle.bl_level.specs.Lexing.{Front, nothing, token, broken, front, Begins}
use Rattle.bl_level.specs.Name.{AreProper}
use Rattle.bl_work.specs.Grammar.{SpelledLine, spell, CanGoOn}
use Rattle.bl_work.specs.Fault.{ReadsAs, FaultAt, SyntaxFault}
use Rattle.bl_work.proofs.Lists.{proper_behind, proper_append}

-- the one goes on where the other stops
abbrev Longer : List Tok → List ℕ → List Tok → Type 0
Longer xs r ys = (t : Tok) × (more : List Tok) × (m : List ℕ) × (ys ≡ xs ++ t ∷ more) × (front r ≡ token t m)

abbrev Compared : List Tok → List ℕ → List Tok → List ℕ → Type 0
Compared xs r ys s = ((xs ≡ ys) × (r ≡ s)) ⊎ (Longer xs r ys ⊎ Longer ys s xs)

behind : (t : Tok) (xs ys : List Tok) (r s : List ℕ) → Compared xs r ys s → Compared (t ∷ xs) r (t ∷ ys) s
behind t xs ys r s (inl p) = inl (ap (λ x. t ∷ x) p.0, p.1)
behind t xs ys r s (inr (inl (u, more, m, e, f))) = inr (inl (u, more, m, ap (λ x. t ∷ x) e, f))
behind t xs ys r s (inr (inr (u, more, m, e, f))) = inr (inr (u, more, m, ap (λ x. t ∷ x) e, f))

compare : (xs ys : List Tok) (bytes r s : List ℕ) → Begins bytes xs r → Begins bytes ys s → Compared xs r ys s
compare [] [] bytes r s b c = inl (refl, b ∙ sym c)
compare [] (y ∷ ys) bytes r s b (m, f, c) = inr (inl (y, ys, m, refl, ap front b ∙ f))
compare (x ∷ xs) [] bytes r s (m, f, b) c = inr (inr (x, xs, m, refl, ap front c ∙ f))
compare (x ∷ xs) (y ∷ ys) bytes r s (m, f, b) (n, g, c) =
    let e : token x m ≡ token y n = sym f ∙ g in
    let same : x ≡ y = cc in
    let same' : n ≡ m = cc in
    rw (← same) (behind x xs ys r s (compare xs ys m r s b (rw same' at c)))

-- where one reading stops at a token, no line goes on with a reading that takes it
blocked : (xs ys : List Tok) (r : List ℕ) (left : ℕ) → AreProper ys → FaultAt xs r (front r) left → Longer xs r ys → CanGoOn ys → ⊥
blocked xs ys r left proper fault (t, more, m, e, f) (line, rest, g, good) =
    let p : AreProper (t ∷ more) = proper_behind xs (t ∷ more) (subst AreProper e proper) in
    (rw f at fault).1 (
      line,
      more ++ rest,
      g ∙ ap (λ x. x ++ rest) e ∙ append_assoc xs (t ∷ more) rest ∙ sym (append_assoc xs (t ∷ []) (more ++ rest)),
      proper_append more rest p.1 good,
    )

same_left : (f : Front) (before : List Tok) (rest : List ℕ) (l l' : ℕ) → FaultAt before rest f l → FaultAt before rest f l' → l ≡ l'
same_left nothing before rest l l' a b = a.0 ∙ sym b.0
same_left (broken from) before rest l l' a b = a ∙ sym b
same_left (token t more) before rest l l' a b = a.0 ∙ sym b.0

pub one_fault : ((bytes rest : List ℕ) (ts : List Tok) → Begins bytes ts rest → AreProper ts) → (bytes : List ℕ) (k k' : ℕ) → SyntaxFault bytes k → SyntaxFault bytes k' → k ≡ k'
one_fault proper bytes k k' a b = go (compare a.before b.before bytes a.rest b.rest a.begins b.begins)
  where
    go : Compared a.before a.rest b.before b.rest → k ≡ k'
    go (inl p) =
        let same : FaultAt b.before b.rest (front b.rest) a.left = subst (λ x. FaultAt x b.rest (front b.rest) a.left) p.0 (subst (λ x. FaultAt a.before x (front x) a.left) p.1 a.fault) in
        omega (arith, same_left (front b.rest) b.before b.rest a.left b.left same b.fault, a.place_is, b.place_is)
    go (inr (inl longer)) = absurd (blocked a.before b.before a.rest a.left (proper bytes b.rest b.before b.begins) a.fault longer b.goes_on)
    go (inr (inr longer)) = absurd (blocked b.before a.before b.rest b.left (proper bytes a.rest a.before a.begins) b.fault longer a.goes_on)

-- what reads as a line has no fault
pub reads_no_fault : ((bytes rest : List ℕ) (ts : List Tok) → Begins bytes ts rest → AreProper ts) → (bytes : List ℕ) (l : SpelledLine) (k : ℕ) → ReadsAs bytes l → SyntaxFault bytes k → ⊥
reads_no_fault proper bytes l k reads a = go (compare a.before (spell l) bytes a.rest [] a.begins reads)
  where
    ends : (f : Front) → f ≡ nothing → FaultAt a.before a.rest f a.left → a.before ≡ spell l → ⊥
    ends f is fault same = (rw is at fault).1 l (sym same)

    go : Compared a.before a.rest (spell l) [] → ⊥
    go (inl p) = ends (front a.rest) (ap front p.1) a.fault p.0
    go (inr (inl longer)) = blocked a.before (spell l) a.rest a.left (proper bytes [] (spell l) reads) a.fault longer (l, [], sym (append-nil (spell l)), tt)
    go (inr (inr (t, more, m, e, f))) = cc
