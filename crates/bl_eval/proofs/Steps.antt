-- What one more effect changes.
use Rattle.std.proofs.Common.{◌≡◌, ◌≢◌, ℕ, suc, ◌<◌, inl, inr, Bool, true, false, cond, ◌&&◌, List, [], ◌∷◌, ◌++◌, length, get_or, refl, ap, sym, ◌∙◌, arith, Result, Ok, Err}
use Rattle.std.specs.Prelude.{◌==◌, map, OnOk, OnErr}
use Rattle.std.proofs.lemmas.Bool.{or_cases}
use Rattle.std.proofs.lemmas.Bool.Decides.{eqb_tells}
use Rattle.bl_policy.specs.declared.access.Access.{Access}
use Rattle.bl_policy.specs.declared.access.Mode.{Mode}
use Rattle.bl_work.specs.Modes.{declares}
use Rattle.bl_work.specs.Script.{AreApart}
use Rattle.bl_work.specs.Content.{added}
use Rattle.bl_work.specs.Effects.{Effect, Out, Put, Add, Child, after, outputs, children}
use Rattle.bl_grant.specs.Loaned.{Loaned, holding, as_lent}
use Rattle.bl_grant.specs.Loans.{accesses_of, content_of, changed}
use Rattle.bl_eval.specs.Told.{changed_by}

-- effects one after another
pub after-append : (c : List ℕ) (es fs : List Effect) (o : ℕ) → after c (es ++ fs) o ≡ after (after c es o) fs o
after-append c [] fs o = refl
after-append c (Out t ∷ es) fs o = after-append c es fs o
after-append c (Put d t ∷ es) fs o = after-append (cond (d == o) t c) es fs o
after-append c (Add d t ∷ es) fs o = after-append (cond (d == o) (added c t) c) es fs o
after-append c (Child k ∷ es) fs o = after-append c es fs o

pub outputs-append : (es fs : List Effect) → outputs (es ++ fs) ≡ outputs es ++ outputs fs
outputs-append [] fs = refl
outputs-append (Out t ∷ es) fs = ap (λ l. t ∷ l) (outputs-append es fs)
outputs-append (Put d t ∷ es) fs = outputs-append es fs
outputs-append (Add d t ∷ es) fs = outputs-append es fs
outputs-append (Child k ∷ es) fs = outputs-append es fs

pub children-append : (es fs : List Effect) → children (es ++ fs) ≡ children es ++ children fs
children-append [] fs = refl
children-append (Out t ∷ es) fs = children-append es fs
children-append (Put d t ∷ es) fs = children-append es fs
children-append (Add d t ∷ es) fs = children-append es fs
children-append (Child k ∷ es) fs = ap (λ l. k ∷ l) (children-append es fs)

-- the accesses stay
pub accesses-changed : (start : List Loaned) (es : List Effect) → accesses_of (changed_by start es) ≡ accesses_of start
accesses-changed [] es = refl
accesses-changed (g ∷ start) es = ap (λ l. g.access ∷ l) (accesses-changed start es)

-- and so do they where the grants are of what was lent
pub accesses-kept : (gs now : List Loaned) → map as_lent now ≡ map as_lent gs → accesses_of now ≡ accesses_of gs
accesses-kept gs now kept = sym (lent-accesses now) ∙ ap accesses_of kept ∙ lent-accesses gs
  where
    lent-accesses : (gs : List Loaned) → accesses_of (map as_lent gs) ≡ accesses_of gs
    lent-accesses [] = refl
    lent-accesses (g ∷ gs) = ap (λ l. g.access ∷ l) (lent-accesses gs)

-- a change leaves them of what was lent
pub changed-kept : (change : List ℕ → List ℕ) (doc : ℕ) (gs : List Loaned) → map as_lent (changed change doc gs) ≡ map as_lent gs
changed-kept change doc [] = refl
changed-kept change doc (g ∷ gs) = go (g.access.doc == doc) (changed-kept change doc gs)
  where
    go : (b : Bool) → map as_lent (changed change doc gs) ≡ map as_lent gs → map as_lent (cond b (holding g (change g.now) ∷ gs) (g ∷ changed change doc gs)) ≡ map as_lent (g ∷ gs)
    go true rest = refl
    go false rest = ap (λ l. as_lent g ∷ l) rest

-- effects that change no content change no grant
pub changed_by-same : (start : List Loaned) (es fs : List Effect) → ((c : List ℕ) (o : ℕ) → after c fs o ≡ c) → changed_by start (es ++ fs) ≡ changed_by start es
changed_by-same [] es fs none = refl
changed_by-same (g ∷ start) es fs none =
    ap (λ c. holding g c ∷ changed_by start (es ++ fs)) (after-append g.now es fs g.access.doc ∙ none (after g.now es g.access.doc) g.access.doc)
    ∙ ap (λ l. holding g (after g.now es g.access.doc) ∷ l) (changed_by-same start es fs none)

other : (a b : ℕ) → a ≢ b → (a == b) ≡ false
other a b ne = elim (eqb_tells a b) [ inl q ↦ absurd (ne q.1) | inr q ↦ q.0 ]

same : (a b : ℕ) → a ≡ b → (a == b) ≡ true
same a b e = elim (eqb_tells a b) [ inl q ↦ q.0 | inr q ↦ absurd (q.1 e) ]

-- an effect that changes one document
module _ (e : Effect) (d : ℕ) (change : List ℕ → List ℕ) (changes : (c : List ℕ) (o : ℕ) → after c (e ∷ []) o ≡ cond (d == o) (change c) c) where
  -- leaves the grants of others
  away : (start : List Loaned) (es : List Effect) → ((k : ℕ) (a : Access) → k < length (accesses_of start) → (get_or (accesses_of start) k a).doc ≢ d)
      → changed_by start (es ++ e ∷ []) ≡ changed_by start es
  away [] es others = refl
  away (g ∷ start) es others =
      ap (λ c. holding g c ∷ changed_by start (es ++ e ∷ []))
      (after-append g.now es (e ∷ []) g.access.doc ∙ changes (after g.now es g.access.doc) g.access.doc
      ∙ ap (λ b. cond b (change (after g.now es g.access.doc)) (after g.now es g.access.doc)) (other d g.access.doc (λ q. others 0 g.access (omega arith) (sym q))))
      ∙ ap (λ l. holding g (after g.now es g.access.doc) ∷ l) (away start es (λ k a lt. others (suc k) a (omega arith)))

  -- and is one change of the grants, where their documents are different
  pub changed-more : (start : List Loaned) (es : List Effect) → AreApart (accesses_of start) → changed change d (changed_by start es) ≡ changed_by start (es ++ e ∷ [])
  changed-more [] es apart = refl
  changed-more (g ∷ start) es apart =
      let was = after g.now es g.access.doc in
      let head : after g.now (es ++ e ∷ []) g.access.doc ≡ cond (d == g.access.doc) (change was) was = after-append g.now es (e ∷ []) g.access.doc ∙ changes was g.access.doc in
      elim (eqb_tells g.access.doc d) [
        | inl q ↦
            ap (λ b. cond b (holding g (change was) ∷ changed_by start es) (holding g was ∷ changed change d (changed_by start es))) q.0
            ∙ sym (ap (λ c. holding g c ∷ changed_by start (es ++ e ∷ [])) (head ∙ ap (λ b. cond b (change was) was) (same d g.access.doc (sym q.1)))
            ∙ ap (λ l. holding g (change was) ∷ l) (away start es (λ k a lt r. apart 0 (suc k) a (omega arith) (omega arith) (q.1 ∙ sym r))))
        | inr q ↦
            ap (λ b. cond b (holding g (change was) ∷ changed_by start es) (holding g was ∷ changed change d (changed_by start es))) q.0
            ∙ ap (λ l. holding g was ∷ l) (changed-more start es (λ i j a lt lt'. apart (suc i) (suc j) a (omega arith) (omega arith)))
            ∙ sym (ap (λ c. holding g c ∷ changed_by start (es ++ e ∷ [])) (head ∙ ap (λ b. cond b (change was) was) (other d g.access.doc (λ r. q.1 (sym r)))))
      ]

-- a document that is declared is seen after the effects
pub content-after : (test : Mode → Bool) (start : List Loaned) (es : List Effect) (o : ℕ) → declares test (accesses_of start) o ≡ true
    → content_of (changed_by start es) o ≡ after (content_of start o) es o
content-after test [] es o h = cc
content-after test (g ∷ start) es o h =
    elim (eqb_tells g.access.doc o) [
      | inl q ↦
          ap (λ b. cond b (after g.now es g.access.doc) (content_of (changed_by start es) o)) q.0
          ∙ ap (λ d. after g.now es d) q.1
          ∙ sym (ap (λ b. after (cond b g.now (content_of start o)) es o) q.0)
      | inr q ↦
          ap (λ b. cond b (after g.now es g.access.doc) (content_of (changed_by start es) o)) q.0
          ∙ content-after test start es o (later q.0)
          ∙ sym (ap (λ b. after (cond b g.now (content_of start o)) es o) q.0)
    ]
  where
    later : (g.access.doc == o) ≡ false → declares test (accesses_of start) o ≡ true
    later ne = elim (or_cases ((g.access.doc == o) && test g.access.mode) (declares test (accesses_of start) o) h) [
      | inl here ↦ cc (ap (λ b. b && test g.access.mode) ne, here)
      | inr there ↦ there
    ]

-- an addition leaves them of what was lent, whether it was refused or not
pub tried-kept : {U E : Type 0} (r : Result U E) (change : List ℕ → List ℕ) (doc : ℕ) (gs now : List Loaned) → OnOk r (now ≡ changed change doc gs) → OnErr r (now ≡ gs)
    → map as_lent now ≡ map as_lent gs
tried-kept (Ok u) change doc gs now ok err = ap (map as_lent) ok ∙ changed-kept change doc gs
tried-kept (Err e) change doc gs now ok err = ap (map as_lent) err
