-- Sums over places, of which one moves.
use Rattle.std.proofs.Common.{◌≡◌, ◌≢◌, ℕ, zero, suc, ◌≤◌, ◌<◌, ◌+◌, List, [], ◌∷◌, length, get_or, ap, inl, inr, arith, ◌⊎◌, subst}
use Rattle.std.specs.Prelude.{sum_by}
use Rattle.std.specs.List.{range_with_len}
use Rattle.std.proofs.lemmas.List.Sums.{sum_by-cons}
use Rattle.bl_order.proofs.PlaceSums.{sum-less}

module _ (f g : ℕ → ℕ) where
  -- where no other term is greater, the sum has moved no further than the one term
  pub sum-moves : (a n k : ℕ) → a ≤ k → k < a + n → ((m : ℕ) → a ≤ m → m < a + n → m ≢ k → g m ≤ f m)
      → sum_by g (range_with_len a n) + f k ≤ sum_by f (range_with_len a n) + g k
  sum-moves a zero k above below less = absurd (omega (arith, above, below))
  sum-moves a (suc n) k above below less = go (same_or_above a k above) (λ past. sum-moves (a + 1) n k past (omega (arith, below)) (λ m h l. less m (omega (arith, h)) (omega (arith, l))))
    where
      same_or_above : (a k : ℕ) → a ≤ k → (a ≡ k) ⊎ (a + 1 ≤ k)
      same_or_above a k h = grind arith

      apart : (m : ℕ) → a ≡ k → a + 1 ≤ m → m ≢ k
      apart m same h e = absurd (omega (arith, same, h, e))

      go : (a ≡ k) ⊎ (a + 1 ≤ k) → (a + 1 ≤ k → sum_by g (range_with_len (a + 1) n) + f k ≤ sum_by f (range_with_len (a + 1) n) + g k)
          → sum_by g (range_with_len a (suc n)) + f k ≤ sum_by f (range_with_len a (suc n)) + g k
      go (inl same) deeper =
          omega (
            arith,
            ap f same,
            ap g same,
            sum-less f g (a + 1) n (λ m h l. less m (omega (arith, h)) (omega (arith, l)) (apart m same h)),
            sum_by-cons f a (range_with_len (a + 1) n),
            sum_by-cons g a (range_with_len (a + 1) n),
          )
      go (inr past) deeper =
          omega (
            arith,
            less a (omega arith) (omega arith) (λ e. absurd (omega (arith, past, e))),
            deeper past,
            sum_by-cons f a (range_with_len (a + 1) n),
            sum_by-cons g a (range_with_len (a + 1) n),
          )

-- the places from a on, one for each of these behaviours: each has no more than its behaviour
pub sum-places : (f size : ℕ → ℕ) (a : ℕ) (js : List ℕ) → ((i : ℕ) → i < length js → f (a + i) ≤ size (get_or js i 0))
    → sum_by f (range_with_len a (length js)) ≤ sum_by size js
sum-places f size a [] each = omega arith
sum-places f size a (j ∷ js) each =
    omega (arith, first, sum-places f size (a + 1) js rest, sum_by-cons f a (range_with_len (a + 1) (length js)), sum_by-cons size j js)
  where
    none : a + 0 ≡ a
    none = omega arith

    first : f a ≤ size j
    first = subst (λ m. f m ≤ size j) none (each 0 (omega arith))

    further : (i : ℕ) → a + suc i ≡ a + 1 + i
    further i = omega arith

    rest : (i : ℕ) → i < length js → f (a + 1 + i) ≤ size (get_or js i 0)
    rest i lt = subst (λ m. f m ≤ size (get_or js i 0)) (further i) (each (suc i) (omega (arith, lt)))
