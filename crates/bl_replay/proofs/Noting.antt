-- The marks, as lines end places.
use Rattle.std.proofs.Common.{◌≡◌, ℕ, zero, suc, ◌<◌, Bool, true, false, cond, List, [], ◌∷◌, ◌++◌, replicate, length, set, refl, sym, ◌∙◌, ap, inl, inr, ◌⊎◌, get_or-set_same, get_or-set_other}
use Rattle.std.specs.Prelude.{◌==◌, Some}
use Rattle.std.proofs.lemmas.Bool.Decides.{eqb_tells}
use Rattle.bl_replay.specs.Marks.{Finding, first_end, mark_in, is_marked_lost, unless_marked, mark_once, mark_as, noted_at}
use Rattle.bl_replay.specs.declared.mark.Mark.{Mark}
use Rattle.bl_replay.specs.declared.mark.Mark.TheVariants as mark

-- a line more that ends a place, by the mark of the place
once : (m : Mark) (b later : Bool) → unless_marked m b ≡ unless_marked (mark_once m b) later
once mark.Open true later = refl
once mark.Open false later = refl
once mark.Ended b later = refl
once mark.Lost b later = refl

-- what a further line finds is in the marks, or the marks leave it to the lines behind it
pub noted-finding : (marks : List Mark) (n : ℕ) (b : Bool) (found : List Finding) (k : ℕ)
    → unless_marked (mark_in marks k) (first_end (Some (n, b) ∷ found) k) ≡ unless_marked (noted_at marks n b k) (first_end found k)
noted-finding marks n b found k = go (eqb_tells n k)
  where
    go : (((n == k) ≡ true) × (n ≡ k)) ⊎ (((n == k) ≡ false) × (n ≡ k → ⊥))
        → unless_marked (mark_in marks k) (cond (n == k) b (first_end found k))
        ≡ unless_marked (cond (n == k) (mark_once (mark_in marks n) b) (mark_in marks k)) (first_end found k)
    go (inl t) =
        ap (λ c. unless_marked (mark_in marks k) (cond c b (first_end found k))) t.0
        ∙ ap (λ j. unless_marked (mark_in marks j) b) (sym t.1)
        ∙ once (mark_in marks n) b (first_end found k)
        ∙ ap (λ c. unless_marked (cond c (mark_once (mark_in marks n) b) (mark_in marks k)) (first_end found k)) (sym t.0)
    go (inr t) =
        ap (λ c. unless_marked (mark_in marks k) (cond c b (first_end found k))) t.0
        ∙ ap (λ c. unless_marked (cond c (mark_once (mark_in marks n) b) (mark_in marks k)) (first_end found k)) (sym t.0)

-- more open marks change none
pub more-open : (marks : List Mark) (m k : ℕ) → mark_in (marks ++ replicate m mark.Open) k ≡ mark_in marks k
more-open [] zero k = refl
more-open [] (suc m) zero = refl
more-open [] (suc m) (suc k) = more-open [] m k
more-open (x ∷ marks) m zero = refl
more-open (x ∷ marks) m (suc k) = more-open marks m k

-- a mark is set
pub set-noted : (marks : List Mark) (n k : ℕ) (v : Mark) → n < length marks → mark_in (set marks n v) k ≡ cond (n == k) v (mark_in marks k)
set-noted marks n k v lt = go (eqb_tells n k)
  where
    go : (((n == k) ≡ true) × (n ≡ k)) ⊎ (((n == k) ≡ false) × (n ≡ k → ⊥)) → mark_in (set marks n v) k ≡ cond (n == k) v (mark_in marks k)
    go (inl t) = ap (λ j. mark_in (set marks n v) j) (sym t.1) ∙ get_or-set_same marks n v mark.Open lt ∙ ap (λ c. cond c v (mark_in marks k)) (sym t.0)
    go (inr t) = get_or-set_other marks n k v mark.Open (λ e. t.1 (sym e)) ∙ ap (λ c. cond c v (mark_in marks k)) (sym t.0)

-- a mark that is not open stays
pub kept-noted : (marks : List Mark) (n k : ℕ) (b : Bool) → (mark_in marks n ≡ mark.Open → ⊥) → mark_in marks k ≡ noted_at marks n b k
kept-noted marks n k b closed = go (eqb_tells n k)
  where
    stays : (m : Mark) → (m ≡ mark.Open → ⊥) → m ≡ mark_once m b
    stays mark.Open h = absurd (h refl)
    stays mark.Ended h = refl
    stays mark.Lost h = refl

    go : (((n == k) ≡ true) × (n ≡ k)) ⊎ (((n == k) ≡ false) × (n ≡ k → ⊥)) → mark_in marks k ≡ cond (n == k) (mark_once (mark_in marks n) b) (mark_in marks k)
    go (inl t) = ap (mark_in marks) (sym t.1) ∙ stays (mark_in marks n) closed ∙ ap (λ c. cond c (mark_once (mark_in marks n) b) (mark_in marks k)) (sym t.0)
    go (inr t) = ap (λ c. cond c (mark_once (mark_in marks n) b) (mark_in marks k)) (sym t.0)

pub once-open : (m : Mark) (b : Bool) → m ≡ mark.Open → mark_as b ≡ mark_once m b
once-open m b h = ap (λ v. mark_once v b) (sym h)

-- where no line is left, the marks say it all
pub none-left : (m : Mark) → is_marked_lost m ≡ unless_marked m false
none-left mark.Open = refl
none-left mark.Ended = refl
none-left mark.Lost = refl

-- an open mark is set
pub note-open : (old grown : List Mark) (n : ℕ) (lost : Bool) (v : Mark) → ((k : ℕ) → mark_in grown k ≡ mark_in old k) → n < length grown → mark_in grown n ≡ mark.Open
    → v ≡ mark_as lost → (k : ℕ) → mark_in (set grown n v) k ≡ noted_at old n lost k
note-open old grown n lost v same there open_yet is k =
    set-noted grown n k v there
    ∙ ap (λ m. cond (n == k) m (mark_in grown k)) (is ∙ once-open (mark_in old n) lost (sym (same n) ∙ open_yet))
    ∙ ap (cond (n == k) (mark_once (mark_in old n) lost)) (same k)

-- another one stays
pub note-closed : (old grown : List Mark) (n : ℕ) (lost : Bool) → ((k : ℕ) → mark_in grown k ≡ mark_in old k) → (mark_in grown n ≡ mark.Open → ⊥)
    → (k : ℕ) → mark_in grown k ≡ noted_at old n lost k
note-closed old grown n lost same closed k = same k ∙ kept-noted old n k lost (λ open_yet. closed (same n ∙ open_yet))

pub one-more : (marks : List Mark) (k : ℕ) → mark_in (marks ++ mark.Open ∷ []) k ≡ mark_in marks k
one-more marks k = more-open marks 1 k

pub ended-open : mark.Ended ≡ mark.Open → ⊥
ended-open h = absurd (cc)

pub lost-open : mark.Lost ≡ mark.Open → ⊥
lost-open h = absurd (cc)
