-- Where a document's grant stands, and what stands there.
use Rattle.std.proofs.Common.{◌≡◌, ◌≢◌, ℕ, zero, suc, ◌<◌, inl, inr, Bool, true, false, cond, ◌&&◌, ◌||◌, List, [], ◌∷◌, length, get_or, set, refl, ap, sym, ◌∙◌, arith}
use Rattle.std.specs.Prelude.{◌==◌, map}
use Rattle.std.specs.List.{list_any}
use Rattle.std.proofs.lemmas.Bool.{or_cases}
use Rattle.std.proofs.lemmas.Bool.Decides.{eqb_tells}
use Rattle.std.proofs.lemmas.List.{length-map, get_or-map, map-set, set-get_or}
use Rattle.bl_policy.specs.declared.access.Access.{Access}
use Rattle.bl_policy.specs.declared.access.Mode.{Mode}
use Rattle.bl_work.specs.Modes.{declares}
use Rattle.bl_work.specs.Script.{AreApart}
use Rattle.bl_grant.specs.Loaned.{Loaned, holding, no_loan}
use Rattle.bl_grant.specs.Loans.{accesses_of, content_of, changed, IsPlace}
use Rattle.bl_grant.specs.Granted.{loaned_of}
use Rattle.bl_grant.specs.declared.grant.Grant.{Grant}

pub same : (a b : ℕ) → a ≡ b → (a == b) ≡ true
same a b e = elim (eqb_tells a b) [ inl q ↦ q.0 | inr q ↦ absurd (q.1 e) ]

pub is-same : (a b : ℕ) → (a == b) ≡ true → a ≡ b
is-same a b h = elim (eqb_tells a b) [ inl q ↦ q.1 | inr q ↦ cc (q.0, h) ]

other : (a b : ℕ) → a ≢ b → (a == b) ≡ false
other a b ne = elim (eqb_tells a b) [ inl q ↦ absurd (ne q.1) | inr q ↦ q.0 ]

-- behind the first grant the others stand at their places
rest : (g : Loaned) (gs : List Loaned) (doc place : ℕ) → IsPlace (g ∷ gs) doc (suc place) → IsPlace gs doc place
rest g gs doc place at = record { within = omega (arith, at.within); found = at.found; first = λ k lt. at.first (suc k) (omega arith) }

-- a document's content is that of the grant at its place
pub content-at : (gs : List Loaned) (doc place : ℕ) → IsPlace gs doc place → content_of gs doc ≡ (get_or gs place no_loan).now
content-at [] doc place at = absurd (omega (arith, at.within))
content-at (g ∷ gs) doc zero at = ap (λ b. cond b g.now (content_of gs doc)) (same g.access.doc doc at.found)
content-at (g ∷ gs) doc (suc place) at =
    ap (λ b. cond b g.now (content_of gs doc)) (other g.access.doc doc (at.first 0 (omega arith)))
    ∙ content-at gs doc place (rest g gs doc place at)

-- a change is one at the document's place
pub changed-at : (change : List ℕ → List ℕ) (gs : List Loaned) (doc place : ℕ) → IsPlace gs doc place
    → changed change doc gs ≡ set gs place (holding (get_or gs place no_loan) (change (get_or gs place no_loan).now))
changed-at change [] doc place at = absurd (omega (arith, at.within))
changed-at change (g ∷ gs) doc zero at =
    ap (λ b. cond b (holding g (change g.now) ∷ gs) (g ∷ changed change doc gs)) (same g.access.doc doc at.found)
changed-at change (g ∷ gs) doc (suc place) at =
    ap (λ b. cond b (holding g (change g.now) ∷ gs) (g ∷ changed change doc gs)) (other g.access.doc doc (at.first 0 (omega arith)))
    ∙ ap (λ l. g ∷ l) (changed-at change gs doc place (rest g gs doc place at))

-- where no access is of the document, it is not declared
none-declared : (test : Mode → Bool) (accesses : List Access) (doc : ℕ) → ((k : ℕ) (d : Access) → k < length accesses → (get_or accesses k d).doc ≢ doc) → declares test accesses doc ≡ true → ⊥
none-declared test [] doc away h = cc
none-declared test (a ∷ accesses) doc away h =
    elim (or_cases ((a.doc == doc) && test a.mode) (declares test accesses doc) h) [
      | inl here ↦ cc (ap (λ b. b && test a.mode) (other a.doc doc (away 0 a (omega arith))), here)
      | inr later ↦ none-declared test accesses doc (λ k d lt. away (suc k) d (omega arith)) later
    ]

and_right : (a b : Bool) → (a && b) ≡ true → b ≡ true
and_right true b h = h
and_right false b h = cc

-- what is declared in some mode has that mode at its place, where the documents are different
pub mode-at : (test : Mode → Bool) (gs : List Loaned) (doc place : ℕ) → AreApart (accesses_of gs) → declares test (accesses_of gs) doc ≡ true → IsPlace gs doc place
    → test (get_or gs place no_loan).access.mode ≡ true
mode-at test [] doc place apart h at = absurd (omega (arith, at.within))
mode-at test (g ∷ gs) doc zero apart h at =
    elim (or_cases ((g.access.doc == doc) && test g.access.mode) (declares test (accesses_of gs) doc) h) [
      | inl here ↦ and_right (g.access.doc == doc) (test g.access.mode) here
      | inr later ↦ absurd (none-declared test (accesses_of gs) doc (λ k d lt e. apart 0 (suc k) d (omega arith) (omega arith) (at.found ∙ sym e)) later)
    ]
mode-at test (g ∷ gs) doc (suc place) apart h at =
    elim (or_cases ((g.access.doc == doc) && test g.access.mode) (declares test (accesses_of gs) doc) h) [
      | inl here ↦ cc (ap (λ b. b && test g.access.mode) (other g.access.doc doc (at.first 0 (omega arith))), here)
      | inr later ↦ mode-at test gs doc place (λ i j d lt lt'. apart (suc i) (suc j) d (omega arith) (omega arith)) later (rest g gs doc place at)
    ]

-- a document that is declared in some mode is declared
pub is-declared : (test : Mode → Bool) (accesses : List Access) (doc : ℕ) → declares test accesses doc ≡ true → list_any (λ (a : Access). a.doc == doc) accesses ≡ true
is-declared test [] doc h = h
is-declared test (a ∷ accesses) doc h = go (a.doc == doc) (test a.mode) (declares test accesses doc) (list_any (λ (a : Access). a.doc == doc) accesses) h (is-declared test accesses doc)
  where
    go : (x y r s : Bool) → ((x && y) || r) ≡ true → (r ≡ true → s ≡ true) → (x || s) ≡ true
    go true y r s h f = refl
    go false y r s h f = f h

-- and has a grant
pub no-place : (gs : List Loaned) (doc : ℕ) → ((k : ℕ) → k < length gs → (get_or gs k no_loan).access.doc ≢ doc) → list_any (λ (a : Access). a.doc == doc) (accesses_of gs) ≡ true → ⊥
no-place [] doc away h = cc
no-place (g ∷ gs) doc away h =
    elim (or_cases (g.access.doc == doc) (list_any (λ (a : Access). a.doc == doc) (accesses_of gs)) h) [
      | inl here ↦ cc (other g.access.doc doc (away 0 (omega arith)), here)
      | inr later ↦ no-place gs doc (λ k lt. away (suc k) (omega arith)) later
    ]

-- what the code reads at a place
pub read-at : (gs : List Grant) (i : ℕ) (g : Grant) → i < length gs → g ≡ get_or gs i g → get_or (map loaned_of gs) i no_loan ≡ loaned_of g
read-at gs i g lt e = get_or-map loaned_of gs i g no_loan lt ∙ ap loaned_of (sym e)

-- with the grant at its place changed, the document is changed
pub grant-changed : (change : List ℕ → List ℕ) (gs : List Grant) (doc place : ℕ) (g new : Grant) → IsPlace (map loaned_of gs) doc place → g ≡ get_or gs place g
    → loaned_of new ≡ holding (loaned_of g) (change (loaned_of g).now) → map loaned_of (set gs place new) ≡ changed change doc (map loaned_of gs)
grant-changed change gs doc place g new at e made =
    map-set loaned_of gs place new
    ∙ ap (set (map loaned_of gs) place) (made ∙ ap (λ (l : Loaned). holding l (change l.now)) (sym (read-at gs place g (omega (arith, at.within, length-map gs loaned_of)) e)))
    ∙ sym (changed-at change (map loaned_of gs) doc place at)

-- a grant's mode is one in which its document is declared
pub grant-mode : (test : Mode → Bool) (gs : List Grant) (doc place : ℕ) (g : Grant) → AreApart (accesses_of (map loaned_of gs)) → declares test (accesses_of (map loaned_of gs)) doc ≡ true
    → IsPlace (map loaned_of gs) doc place → g ≡ get_or gs place g → test (loaned_of g).access.mode ≡ true
grant-mode test gs doc place g apart h at e =
    ap (λ (l : Loaned). test l.access.mode) (sym (read-at gs place g (omega (arith, at.within, length-map gs loaned_of)) e))
    ∙ mode-at test (map loaned_of gs) doc place apart h at

-- where its value is as before, nothing is changed
pub grant-kept : (gs : List Grant) (place : ℕ) (g new : Grant) → place < length gs → g ≡ get_or gs place g → loaned_of new ≡ loaned_of g
    → map loaned_of (set gs place new) ≡ map loaned_of gs
grant-kept gs place g new lt e kept =
    map-set loaned_of gs place new ∙ ap (set (map loaned_of gs) place) (kept ∙ sym (read-at gs place g lt e)) ∙ set-get_or (map loaned_of gs) place no_loan
