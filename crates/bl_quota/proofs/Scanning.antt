-- Sums over places, one place after another.
use Rattle.std.proofs.Common.{◌≡◌, ℕ, zero, suc, ◌≤◌, ◌<◌, ◌+◌, ◌-◌, ◌^◌, min, true, cond, List, [], ◌∷◌, length, ap, ◌∙◌, sym, arith, inl, inr, ◌⊎◌, subst}
use Rattle.std.specs.Prelude.{sum_by}
use Rattle.std.specs.List.{range_with_len}
use Rattle.std.proofs.lemmas.List.Sums.{sum_by-cons}
use Rattle.bl_order.specs.Machine.{State, has_ended, past_at}
use Rattle.bl_order.proofs.PlaceSums.{sum-less, sum-split}
use Rattle.bl_sizes.specs.Counts.{IsCounted, added_behind, in_word}
use Rattle.bl_sizes.specs.Sizes.{coming_of, frame_size, full_size, size_at, written_at, written_size}
use Rattle.bl_quota.specs.Quotas.{IsLooked, IsSettled}

-- the places from a to n, and n
pub sum-next : (f : ℕ → ℕ) (a n : ℕ) → a ≤ n → sum_by f (range_with_len a (n + 1 - a)) ≡ sum_by f (range_with_len a (n - a)) + f n
sum-next f a n le =
    sum-split f a (n - a) 1 (n + 1 - a) (omega (arith, le))
    ∙ ap (λ k. sum_by f (range_with_len a (n - a)) + sum_by f (range_with_len k 1)) there
    ∙ ap (λ v. sum_by f (range_with_len a (n - a)) + v) (sum_by-cons f n [] ∙ plus_zero (f n))
  where
    there : a + (n - a) ≡ n
    there = omega (arith, le)

    plus_zero : (v : ℕ) → v + 0 ≡ v
    plus_zero v = omega arith

-- a sum that is counted so far, and one place more
pub sum-on : (f : ℕ → ℕ) (a n bytes one : ℕ) → a ≤ n → bytes ≡ in_word (sum_by f (range_with_len a (n - a))) → one ≡ in_word (f n)
    → in_word (bytes + one) ≡ in_word (sum_by f (range_with_len a (n + 1 - a)))
sum-on f a n bytes one le so_far here = omega (arith, so_far, here, sum-next f a n le)

-- before the first place nothing is counted
pub sum-none : (f : ℕ → ℕ) (a : ℕ) → 0 ≡ in_word (sum_by f (range_with_len a (a - a)))
sum-none f a = ap (λ k. in_word (sum_by f (range_with_len a k))) none
  where
    none : 0 ≡ a - a
    none = omega arith

-- once the last place is counted, all are
pub sum-over : (f : ℕ → ℕ) (a n end bytes : ℕ) → bytes ≡ in_word (sum_by f (range_with_len a (n - a))) → n - a ≤ end - a → end ≤ n
    → bytes ≡ in_word (sum_by f (range_with_len a (end - a)))
sum-over f a n end bytes so_far few over = so_far ∙ ap (λ k. in_word (sum_by f (range_with_len a k))) all
  where
    all : n - a ≡ end - a
    all = omega (arith, few, over)

-- two parts
pub sum-both : (f : ℕ → ℕ) (n k : ℕ) → n ≤ k → sum_by f (range_with_len 0 k) ≡ sum_by f (range_with_len 0 n) + sum_by f (range_with_len n (k - n))
sum-both f n k le =
    sum-split f 0 n (k - n) k (omega (arith, le)) ∙ ap (λ a. sum_by f (range_with_len 0 n) + sum_by f (range_with_len a (k - n))) (zero_plus n)
  where
    zero_plus : (a : ℕ) → 0 + a ≡ a
    zero_plus a = omega arith

-- what has ended has what it has
ended-size : (x : State) (n : ℕ) → has_ended x n ≡ true → size_at x n ≡ written_at x n
ended-size x n e = ap (λ b. written_at x n + cond b 0 (coming_of (past_at x n).task)) e ∙ plus_zero (written_at x n)
  where
    plus_zero : (v : ℕ) → v + 0 ≡ v
    plus_zero v = omega arith

less-same : (a b : ℕ) → a ≡ b → a ≤ b
less-same a b e = omega (arith, e)

less-same' : (a b : ℕ) → a ≡ b → b ≤ a
less-same' a b e = omega (arith, e)

ended-sizes : (x : State) (k : ℕ) → ((n : ℕ) → n < k → has_ended x n ≡ true) → sum_by (size_at x) (range_with_len 0 k) ≡ sum_by (written_at x) (range_with_len 0 k)
ended-sizes x k ended =
    let there = sum-less (written_at x) (size_at x) 0 k (λ m above below. less-same (size_at x m) (written_at x m) (ended-size x m (ended m (omega (arith, below))))) in
    let back = sum-less (size_at x) (written_at x) 0 k (λ m above below. less-same' (size_at x m) (written_at x m) (ended-size x m (ended m (omega (arith, below))))) in
    omega (arith, there, back)

module _ (x : State) (kept settled : ℕ) (is : IsSettled x kept settled) where
  -- what is settled and what stands behind it is what was written, and with what may come it is all
  pub all-written : (more : ℕ) → more ≡ in_word (sum_by (written_at x) (range_with_len kept (length x.order - kept)))
      → in_word (in_word (settled + frame_size) + more) ≡ in_word (written_size x)
  all-written more are = omega (arith, is.are, are, sum-both (written_at x) kept (length x.order) is.there)

  pub all-sizes : (more : ℕ) → more ≡ in_word (sum_by (size_at x) (range_with_len kept (length x.order - kept)))
      → in_word (in_word (settled + frame_size) + more) ≡ in_word (full_size x)
  all-sizes more are = omega (arith, is.are, are, sum-both (size_at x) kept (length x.order) is.there, ended-sizes x kept is.ended)

  -- more is settled
  pub settled-on : (to more : ℕ) → kept ≤ to → to ≤ length x.order → ((n : ℕ) → kept ≤ n → n < to → has_ended x n ≡ true)
      → more ≡ in_word (sum_by (written_at x) (range_with_len kept (to - kept))) → IsSettled x to (in_word (settled + more))
  settled-on to more behind there ended are = record {
    there = there;
    ended = λ n lt. go n lt (below_or_not n kept);
    are = omega (arith, is.are, are, sum-both (written_at x) kept to behind);
  }
    where
      below_or_not : (a b : ℕ) → (a < b) ⊎ (b ≤ a)
      below_or_not a b = grind arith

      go : (n : ℕ) → n < to → (n < kept) ⊎ (kept ≤ n) → has_ended x n ≡ true
      go n lt (inl below) = is.ended n below
      go n lt (inr above) = ended n above lt

-- a whole count stands for all entries
pub counted-all : (x : State) (count : ℕ) → count ≡ in_word (full_size x) → IsCounted x count (length x.order)
counted-all x count is = record { there = omega arith; all = omega (arith, is) }

-- the lines that were not counted are
pub looked : (x : State) (count seen more : ℕ) → IsCounted x count seen → more ≡ in_word (added_behind x seen) → IsLooked x (in_word (count + more)) (length x.order)
looked x count seen more c are =
    let all : in_word (full_size x) ≤ in_word (count + more) = omega (arith, c.all, are) in
    record { counted = record { there = omega arith; all = omega (arith, all) }; all = all }
