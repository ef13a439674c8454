-- The replies above an ordinal are those to the next one that a session has, and then those above it.
use Rattle.std.proofs.Common.{◌≡◌, ◌≢◌, ℕ, zero, suc, ◌<◌, ◌≤◌, Bool, true, false, cond, ◌&&◌, ◌||◌, ◌==◌, nat_lt, eqb, List, [], ◌∷◌, ◌++◌, refl, sym, ap, ◌∙◌, arith, lt-ltb, le-ltb, ltb-true, ltb-false, ne_eqb, eqb-true, slice_index_or}
use borrow.Author.Tests.{eqb-false}
use Rattle.bl_order.specs.Labels.{Reply, tag, put_in, is_before, replies_to}
use Rattle.bl_order.specs.Machine.{State}
use Rattle.bl_hall.specs.Told.{replies_above, reply_in}

abbrev pub head_of : List ℕ → ℕ
head_of label = slice_index_or label 0 0

pub before-heads : (a b : List ℕ) → head_of a < head_of b → is_before a b ≡ true
before-heads a [] h = absurd (omega arith)
before-heads [] (n ∷ b) h = refl
before-heads (m ∷ a) (n ∷ b) h = ap (λ t. t || (eqb m n && is_before a b)) (lt-ltb m n h)

not_before-heads : (a b : List ℕ) → head_of b < head_of a → is_before a b ≡ false
not_before-heads [] b h = absurd (omega arith)
not_before-heads (m ∷ a) [] h = refl
not_before-heads (m ∷ a) (n ∷ b) h =
    let less : n ≤ m = omega arith in
    let other : m ≢ n = λ e. omega (arith, h, e) in
    ap (λ t. t || (eqb m n && is_before a b)) (le-ltb m n less) ∙ ap (λ t. t && is_before a b) (ne_eqb m n other)

-- each label's head passes
abbrev Heads : (ℕ → Type 0) → List Reply → Type 0
Heads P [] = Unit {0}
Heads P (r ∷ replies) = P (head_of r.label) × Heads P replies

heads-put : (P : ℕ → Type 0) (r : Reply) (replies : List Reply) → P (head_of r.label) → Heads P replies → Heads P (put_in r replies)
heads-put P r [] p ps = (p, tt)
heads-put P r (s ∷ replies) p ps =
    elim (is_before r.label s.label) as (λ t. Heads P (cond t (r ∷ s ∷ replies) (s ∷ put_in r replies))) [ true ↦ (p, ps) | false ↦ (ps.0, heads-put P r replies p ps.1) ]

heads-as : (P Q : ℕ → Type 0) (replies : List Reply) → ((h : ℕ) → P h → Q h) → Heads P replies → Heads Q replies
heads-as P Q [] f ps = tt
heads-as P Q (r ∷ replies) f ps = (f (head_of r.label) ps.0, heads-as P Q replies f ps.1)

put-front : (r : Reply) (a b : List Reply) → Heads (λ h. head_of r.label < h) b → put_in r (a ++ b) ≡ put_in r a ++ b
put-front r [] [] h = refl
put-front r [] (s ∷ b) h = ap (λ t. cond t (r ∷ s ∷ b) (s ∷ put_in r b)) (before-heads r.label s.label h.0)
put-front r (s ∷ a) b h =
    ap (λ l. cond (is_before r.label s.label) (r ∷ s ∷ (a ++ b)) (s ∷ l)) (put-front r a b h)
    ∙ (elim (is_before r.label s.label) as (λ t. cond t (r ∷ s ∷ (a ++ b)) (s ∷ (put_in r a ++ b)) ≡ cond t (r ∷ s ∷ a) (s ∷ put_in r a) ++ b) [ true ↦ refl | false ↦ refl ])

put-back : (r : Reply) (a b : List Reply) → Heads (λ h. h < head_of r.label) a → put_in r (a ++ b) ≡ a ++ put_in r b
put-back r [] b h = refl
put-back r (s ∷ a) b h =
    ap (λ t. cond t (r ∷ s ∷ (a ++ b)) (s ∷ put_in r (a ++ b))) (not_before-heads r.label s.label h.0) ∙ ap (λ l. s ∷ l) (put-back r a b h.1)

-- no entry of the session below n is of a line between two ordinals
abbrev pub NoneBetween : State → ℕ → ℕ → ℕ → ℕ → Type 0
NoneBetween x i a k n = (m : ℕ) → m < n → (tag x.order m).session ≡ i → a < head_of (tag x.order m).label → head_of (tag x.order m).label < k → ⊥

module _ (x : State) (i a k : ℕ) (after : a < k) where
  -- one place more
  step : (s : Bool) (h n : ℕ) → (s ≡ true → a < h → h < k → ⊥) → h ≡ head_of (reply_in x n).label → (xs ys zs : List Reply) → xs ≡ ys ++ zs → Heads (λ j. j ≡ k) ys → Heads (λ j. k < j) zs
      → (cond (s && nat_lt a h) (put_in (reply_in x n) xs) xs ≡ cond (s && (h == k)) (put_in (reply_in x n) ys) ys ++ cond (s && nat_lt k h) (put_in (reply_in x n) zs) zs)
      × Heads (λ j. j ≡ k) (cond (s && (h == k)) (put_in (reply_in x n) ys) ys) × Heads (λ j. k < j) (cond (s && nat_lt k h) (put_in (reply_in x n) zs) zs)
  step false h n none is xs ys zs e one more = (e, one, more)
  step true h n none is xs ys zs e one more = go (nat_lt a h) (h == k) (nat_lt k h) refl refl refl
    where
      go : (t u v : Bool) → nat_lt a h ≡ t → eqb h k ≡ u → nat_lt k h ≡ v
          → (cond t (put_in (reply_in x n) xs) xs ≡ cond u (put_in (reply_in x n) ys) ys ++ cond v (put_in (reply_in x n) zs) zs)
          × Heads (λ j. j ≡ k) (cond u (put_in (reply_in x n) ys) ys) × Heads (λ j. k < j) (cond v (put_in (reply_in x n) zs) zs)
      go true true false p q r =
          let same = eqb-true h k q in (
            ap (put_in (reply_in x n)) e ∙ put-front (reply_in x n) ys zs (heads-as (λ j. k < j) (λ j. head_of (reply_in x n).label < j) zs (λ j m. omega (arith, m, same, is)) more),
            heads-put (λ j. j ≡ k) (reply_in x n) ys (sym is ∙ same) one,
            more,
          )
      go true false true p q r =
          let far = ltb-true k h r in (
            ap (put_in (reply_in x n)) e ∙ put-back (reply_in x n) ys zs (heads-as (λ j. j ≡ k) (λ j. j < head_of (reply_in x n).label) ys (λ j m. omega (arith, m, far, is)) one),
            one,
            heads-put (λ j. k < j) (reply_in x n) zs (omega (arith, far, is)) more,
          )
      go false false false p q r = (e, one, more)
      go true true true p q r = absurd (omega (arith, eqb-true h k q, ltb-true k h r))
      go true false false p q r =
          absurd (none refl (ltb-true a h p) (let low = ltb-false k h r in let other = eqb-false h k q in omega arith))
      go false true v p q r = absurd (omega (arith, eqb-true h k q, ltb-false a h p, after))
      go false false true p q r = absurd (omega (arith, ltb-true k h r, ltb-false a h p, after))

  below : (n : ℕ) → NoneBetween x i a k n
      → (replies_above x i a n ≡ replies_to x i k n ++ replies_above x i k n) × Heads (λ j. j ≡ k) (replies_to x i k n) × Heads (λ j. k < j) (replies_above x i k n)
  below zero none = (refl, tt, tt)
  below (suc n) none =
      let b = below n (λ m lt. none m (omega (arith, lt))) in
      step ((tag x.order n).session == i) (head_of (tag x.order n).label) n (λ s. none n (omega arith) (eqb-true (tag x.order n).session i s)) refl
      (replies_above x i a n) (replies_to x i k n) (replies_above x i k n) b.0 b.1 b.2

  -- the replies above an ordinal, where no entry of the session is of a line between it and another
  pub above-split : (n : ℕ) → NoneBetween x i a k n → replies_above x i a n ≡ replies_to x i k n ++ replies_above x i k n
  above-split n none = (below n none).0
