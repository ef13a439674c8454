-- Sums over places that follow each other.
use Rattle.std.proofs.Common.{◌≡◌, ℕ, zero, suc, ◌≤◌, ◌<◌, ◌+◌, List, [], ◌∷◌, length, get_or, ap, ◌∙◌, inl, inr, arith, ◌⊎◌, subst}
use Rattle.std.specs.Prelude.{sum_by}
use Rattle.std.specs.List.{range_with_len}
use Rattle.std.proofs.lemmas.List.Sums.{sum_by-cons}

-- the places from a on, so many of them and then so many more
pub sum-split : (f : ℕ → ℕ) (a n m k : ℕ) → k ≡ n + m → sum_by f (range_with_len a k) ≡ sum_by f (range_with_len a n) + sum_by f (range_with_len (a + n) m)
sum-split f a zero m k is = ap (λ j. sum_by f (range_with_len a j)) all ∙ ap (λ j. sum_by f (range_with_len j m)) none ∙ nothing
  where
    all : k ≡ m
    all = omega (arith, is)

    none : a ≡ a + 0
    none = omega arith

    nothing : sum_by f (range_with_len (a + 0) m) ≡ 0 + sum_by f (range_with_len (a + 0) m)
    nothing = omega arith
sum-split f a (suc n) m zero is = absurd (omega (arith, is))
sum-split f a (suc n) m (suc k) is =
    let deeper : sum_by f (range_with_len (a + 1) k) ≡ sum_by f (range_with_len (a + 1) n) + sum_by f (range_with_len (a + suc n) m) =
    sum-split f (a + 1) n m k (omega (arith, is)) ∙ ap (λ j. sum_by f (range_with_len (a + 1) n) + sum_by f (range_with_len j m)) further in
    omega (arith, deeper, sum_by-cons f a (range_with_len (a + 1) k), sum_by-cons f a (range_with_len (a + 1) n))
  where
    further : a + 1 + n ≡ a + suc n
    further = omega arith

module _ (f g : ℕ → ℕ) where
  -- where no term is greater, the sum is not
  pub sum-less : (a n : ℕ) → ((m : ℕ) → a ≤ m → m < a + n → g m ≤ f m) → sum_by g (range_with_len a n) ≤ sum_by f (range_with_len a n)
  sum-less a zero less = omega arith
  sum-less a (suc n) less =
      omega (
        arith,
        less a (omega arith) (omega arith),
        sum-less (a + 1) n (λ m above below. less m (omega arith) (omega arith)),
        sum_by-cons f a (range_with_len (a + 1) n),
        sum_by-cons g a (range_with_len (a + 1) n),
      )

  -- and where one of them becomes nothing, it is less by that one
  pub sum-drops : (a n k : ℕ) → a ≤ k → k < a + n → g k ≡ 0 → ((m : ℕ) → a ≤ m → m < a + n → g m ≤ f m)
      → sum_by g (range_with_len a n) + f k ≤ sum_by f (range_with_len a n)
  sum-drops a zero k above below gone less = absurd (omega (arith, above, below))
  sum-drops a (suc n) k above below gone less = go (same_or_above a k above) (λ past. sum-drops (a + 1) n k past (omega arith) gone (λ m h l. less m (omega arith) (omega arith)))
    where
      same_or_above : (a k : ℕ) → a ≤ k → (a ≡ k) ⊎ (a + 1 ≤ k)
      same_or_above a k h = grind arith

      rest : (m : ℕ) → a + 1 ≤ m → m < a + 1 + n → g m ≤ f m
      rest m h l = less m (omega arith) (omega arith)

      go : (a ≡ k) ⊎ (a + 1 ≤ k) → (a + 1 ≤ k → sum_by g (range_with_len (a + 1) n) + f k ≤ sum_by f (range_with_len (a + 1) n))
          → sum_by g (range_with_len a (suc n)) + f k ≤ sum_by f (range_with_len a (suc n))
      go (inl same) deeper =
          let here : g a ≡ 0 = ap g same ∙ gone in
          omega (arith, here, ap f same, sum-less (a + 1) n rest, sum_by-cons f a (range_with_len (a + 1) n), sum_by-cons g a (range_with_len (a + 1) n))
      go (inr past) deeper =
          omega (
            arith,
            less a (omega arith) (omega arith),
            deeper past,
            sum_by-cons f a (range_with_len (a + 1) n),
            sum_by-cons g a (range_with_len (a + 1) n),
          )

-- the places from a on, one for each of these behaviours: each with what may come of it is within its behaviour's size
pub sum-new : (f size : ℕ → ℕ) (a : ℕ) (js : List ℕ) → ((i : ℕ) → i < length js → f (a + i) + 1 ≤ size (get_or js i 0))
    → sum_by f (range_with_len a (length js)) + length js ≤ sum_by size js
sum-new f size a [] each = omega arith
sum-new f size a (j ∷ js) each =
    omega (arith, first, sum-new f size (a + 1) js rest, sum_by-cons f a (range_with_len (a + 1) (length js)), sum_by-cons size j js)
  where
    none : a + 0 ≡ a
    none = omega arith

    first : f a + 1 ≤ size j
    first = subst (λ m. f m + 1 ≤ size j) none (each 0 (omega arith))

    further : (i : ℕ) → a + suc i ≡ a + 1 + i
    further i = omega arith

    rest : (i : ℕ) → i < length js → f (a + 1 + i) + 1 ≤ size (get_or js i 0)
    rest i lt = subst (λ m. f m + 1 ≤ size (get_or js i 0)) (further i) (each (suc i) (omega arith))
