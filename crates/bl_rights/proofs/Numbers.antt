-- Numbers from one on: the next of them, and the first of which something holds.
use Rattle.std.proofs.Common.{◌≡◌, ◌<◌, ◌≤◌, ◌+◌, ◌-◌, ℕ, zero, suc, Bool, true, false, [], ◌∷◌, ◌++◌, ap, ◌∙◌, arith, Some, None}
use Rattle.std.specs.Prelude.{cond, find}
use Rattle.std.specs.List.{range_with_len}

next-of : (n a : ℕ) → range_with_len a (suc n) ≡ range_with_len a n ++ (a + n) ∷ []
next-of zero a = let e : a ≡ a + 0 = omega arith in ap (λ x. x ∷ []) e
next-of (suc n) a =
    let e : a + 1 + n ≡ a + suc n = omega arith in
    ap (λ l. a ∷ l) (next-of n (a + 1) ∙ ap (λ x. range_with_len (a + 1) n ++ x ∷ []) e)

-- one number more, from 0 on
pub one-more : (n : ℕ) → range_with_len 0 (n + 1) ≡ range_with_len 0 n ++ n ∷ []
one-more n =
    let e : n + 1 ≡ suc n = omega arith in
    let z : 0 + n ≡ n = omega arith in
    ap (range_with_len 0) e ∙ next-of n 0 ∙ ap (λ x. range_with_len 0 n ++ x ∷ []) z

-- the numbers from a on begin with a, where there are some
pub first-of-them : (a n : ℕ) → a < n → range_with_len a (n - a) ≡ a ∷ range_with_len (a + 1) (n - (a + 1))
first-of-them a n within = let e : n - a ≡ suc (n - (a + 1)) = omega arith in ap (range_with_len a) e

pub none-of-them : (a n : ℕ) → n ≤ a → range_with_len a (n - a) ≡ []
none-of-them a n over = let e : n - a ≡ 0 = omega arith in ap (range_with_len a) e

module _ (test : ℕ → Bool) where
  pub find-here : (a n : ℕ) → a < n → test a ≡ true → find test (range_with_len a (n - a)) ≡ Some a
  find-here a n within holds = ap (find test) (first-of-them a n within)
      ∙ ap (λ b. cond b (Some a) (find test (range_with_len (a + 1) (n - (a + 1))))) holds

  pub find-next : (a n : ℕ) → a < n → test a ≡ false → find test (range_with_len a (n - a)) ≡ find test (range_with_len (a + 1) (n - (a + 1)))
  find-next a n within fails = ap (find test) (first-of-them a n within)
      ∙ ap (λ b. cond b (Some a) (find test (range_with_len (a + 1) (n - (a + 1))))) fails

  pub find-none : (a n : ℕ) → n ≤ a → find test (range_with_len a (n - a)) ≡ None
  find-none a n over = ap (find test) (none-of-them a n over)
