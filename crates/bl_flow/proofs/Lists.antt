-- Lists that grow at their end, entries of orders, tests of two alternatives, and numbers in order.
use Rattle.std.proofs.Common.{◌≡◌, ℕ, zero, suc, ◌+◌, ◌<◌, Bool, true, false, ◌||◌, List, [], ◌∷◌, ◌++◌, length, refl, ap, inl, inr, arith, ◌⊎◌, true≢false, get_or}
use Rattle.std.specs.Prelude.{Some, slice_get}

-- the element at the end
pub get_or-end : {X : Type 0} (xs : List X) (x d : X) → get_or (xs ++ x ∷ []) (length xs) d ≡ x
get_or-end [] x d = refl
get_or-end (y ∷ xs) x d = get_or-end xs x d

-- and the length with it
pub length-end : {X : Type 0} (xs : List X) (x : X) → length (xs ++ x ∷ []) ≡ suc (length xs)
length-end [] x = refl
length-end (y ∷ xs) x = ap suc (length-end xs x)

-- what is got from a list stands within its length
pub got-within : {X : Type 0} (xs : List X) (n : ℕ) (x : X) → slice_get xs n ≡ Some x → n < length xs
got-within [] n x h = absurd (cc)
got-within (y ∷ xs) zero x h = omega arith
got-within (y ∷ xs) (suc n) x h = omega (arith, got-within xs n x h)

-- one of two alternatives holds
pub or_either : (a b : Bool) → (a || b) ≡ true → (a ≡ true) ⊎ (b ≡ true)
or_either true b h = inl refl
or_either false b h = inr h

pub or_left : (a b : Bool) → a ≡ true → (a || b) ≡ true
or_left a b h = ap (λ c. c || b) h

pub or_right : (a b : Bool) → b ≡ true → (a || b) ≡ true
or_right true b h = refl
or_right false b h = h

-- neither holds
pub or_none : (a b : Bool) → (a || b) ≡ false → (a ≡ false) × (b ≡ false)
or_none true b h = absurd (true≢false h)
or_none false b h = (refl, h)

-- the numbers below the next one
pub less_or_equal : (m n : ℕ) → m < suc n → (m < n) ⊎ (m ≡ n)
less_or_equal m n lt = grind arith

-- two numbers are in order, or one
pub compared : (m n : ℕ) → (m < n) ⊎ ((m ≡ n) ⊎ (n < m))
compared m n = grind arith

-- sums, as recursion has them
pub none_more : (a : ℕ) → a + zero ≡ a
none_more a = omega arith

pub one_more : (a i : ℕ) → a + suc i ≡ suc (a + i)
one_more a i = omega arith
