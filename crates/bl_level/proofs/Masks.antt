-- A number as the set of the places of its bits.
use Rattle.std.proofs.Common.{◌≡◌, ℕ, zero, suc, ◌<◌, ◌≤◌, ◌^◌, ◌/◌, min, max, sym, ◌∙◌, ap, arith, inl, inr, ◌⊎◌, ◌≢◌}
use Rattle.std.specs.Prelude.{bit_and, bit_or, ◌↔◌}
use Rattle.std.specs.Int.{bit_at}
use Rattle.std.proofs.lemmas.Bool.{cases_eq}
use Rattle.std.proofs.lemmas.Nat.Bits.{bit_at-pow_same, bit_at-pow_other, bit_at_and, bit_at_or, bit_at-lt, bit_at_above, bit_at-zero, bit_at-suc, same_from_bits}
use Rattle.std.proofs.Math.Nat.{pow-suc}

-- a bit is 0 or 1
pub zero_or_one : (n : ℕ) → n < 2 → (n ≡ 0) ⊎ (n ≡ 1)
zero_or_one n h = grind arith

pub bit_cases : (n k : ℕ) → (bit_at n k ≡ 0) ⊎ (bit_at n k ≡ 1)
bit_cases n k = zero_or_one (bit_at n k) (bit_at-lt n k)

-- where a & b is b, each member of b is one of a
pub subset-and : (a b : ℕ) → bit_and a b ≡ b → (k : ℕ) → bit_at b k ≡ 1 → bit_at a k ≡ 1
subset-and a b e k h =
    let m : bit_at b k ≡ min (bit_at a k) (bit_at b k) = ap (λ n. bit_at n k) (sym e) ∙ bit_at_and a b k in
    let l : bit_at a k < 2 = bit_at-lt a k in
    omega arith

-- where each member of b is one of a, a & b is b
pub and-subset : (a b : ℕ) → ((k : ℕ) → bit_at b k ≡ 1 → bit_at a k ≡ 1) → bit_and a b ≡ b
and-subset a b each = same_from_bits (bit_and a b) b (λ k. bit_at_and a b k ∙ go k (bit_cases b k))
  where
    go : (k : ℕ) → (bit_at b k ≡ 0) ⊎ (bit_at b k ≡ 1) → min (bit_at a k) (bit_at b k) ≡ bit_at b k
    go k (inl absent) = omega arith
    go k (inr member) = let p : bit_at a k ≡ 1 = each k member in omega arith

-- two sets with the same members are one
pub same_members : (a b : ℕ) → ((k : ℕ) → bit_at a k ≡ 1 → bit_at b k ≡ 1) → ((k : ℕ) → bit_at b k ≡ 1 → bit_at a k ≡ 1) → a ≡ b
same_members a b there back = same_from_bits a b (λ k. go k (bit_cases a k) (bit_cases b k))
  where
    go : (k : ℕ) → (bit_at a k ≡ 0) ⊎ (bit_at a k ≡ 1) → (bit_at b k ≡ 0) ⊎ (bit_at b k ≡ 1) → bit_at a k ≡ bit_at b k
    go k (inr x) y = x ∙ sym (there k x)
    go k (inl x) (inl y) = x ∙ sym y
    go k (inl x) (inr y) = back k y ∙ sym y

-- the members of a | b are those of either
pub or-member : (a b k : ℕ) → (bit_at (bit_or a b) k ≡ 1) ↔ ((bit_at a k ≡ 1) ⊎ (bit_at b k ≡ 1))
or-member a b k = ((λ h. there h (bit_cases a k)), back)
  where
    l : bit_at a k < 2
    l = bit_at-lt a k

    m : bit_at b k < 2
    m = bit_at-lt b k

    e : bit_at (bit_or a b) k ≡ max (bit_at a k) (bit_at b k)
    e = bit_at_or a b k

    there : bit_at (bit_or a b) k ≡ 1 → (bit_at a k ≡ 0) ⊎ (bit_at a k ≡ 1) → (bit_at a k ≡ 1) ⊎ (bit_at b k ≡ 1)
    there h (inr x) = inl x
    there h (inl x) = inr (omega (arith, bit_at_or a b k, bit_at-lt b k))

    back : (bit_at a k ≡ 1) ⊎ (bit_at b k ≡ 1) → bit_at (bit_or a b) k ≡ 1
    back (inl x) = omega (arith, bit_at_or a b k, bit_at-lt b k)
    back (inr x) = omega (arith, bit_at_or a b k, bit_at-lt a k)

-- each member of a number below 2 ^ n is below n
pub member-below : (x n : ℕ) → x < 2 ^ n → (k : ℕ) → bit_at x k ≡ 1 → k < n
member-below x n h k member = go (bit_at_above x n k h)
  where
    go : (n ≤ k → bit_at x k ≡ 0) → k < n
    go above = grind (arith, above, member)

-- a number each of whose members is below n is below 2 ^ n
pub below-members : (x n : ℕ) → ((k : ℕ) → bit_at x k ≡ 1 → k < n) → x < 2 ^ n
below-members x zero each = let none : x ≡ 0 = same_from_bits x 0 (λ k. go k (bit_cases x k)) in omega (arith, none)
  where
    go : (k : ℕ) → (bit_at x k ≡ 0) ⊎ (bit_at x k ≡ 1) → bit_at x k ≡ bit_at 0 k
    go k (inl absent) = absent ∙ sym (bit_at-zero k)
    go k (inr member) = let l : k < 0 = each k member in absurd (omega arith)
below-members x (suc n) each =
    let half : x / 2 < 2 ^ n = below-members (x / 2) n (λ k member. let l : suc k < suc n = each (suc k) (bit_at-suc x k ∙ member) in omega arith) in
    omega (arith, half, pow-suc 2 n)

-- the mask of one category has no other member
pub one-member : (k j : ℕ) → (bit_at (2 ^ k) j ≡ 1) ↔ (j ≡ k)
one-member k j = ((λ h. there h (cases_eq j k)), (λ e. ap (λ i. bit_at (2 ^ k) i) e ∙ bit_at-pow_same k))
  where
    there : bit_at (2 ^ k) j ≡ 1 → (j ≡ k) ⊎ (j ≢ k) → j ≡ k
    there h (inl e) = e
    there h (inr other) = absurd (omega (arith, sym h ∙ bit_at-pow_other k j other))

-- a mask into which one category was put
pub put-member : (mask k bit : ℕ) → bit ≡ 2 ^ k → (j : ℕ) → (bit_at (bit_or mask bit) j ≡ 1) ↔ ((bit_at mask j ≡ 1) ⊎ (j ≡ k))
put-member mask k bit is j = (λ h. there ((or-member mask bit j).0 h), λ h. (or-member mask bit j).1 (back h))
  where
    there : (bit_at mask j ≡ 1) ⊎ (bit_at bit j ≡ 1) → (bit_at mask j ≡ 1) ⊎ (j ≡ k)
    there (inl m) = inl m
    there (inr b) = inr ((one-member k j).0 (ap (λ n. bit_at n j) (sym is) ∙ b))

    back : (bit_at mask j ≡ 1) ⊎ (j ≡ k) → (bit_at mask j ≡ 1) ⊎ (bit_at bit j ≡ 1)
    back (inl m) = inl m
    back (inr e) = inr (ap (λ n. bit_at n j) is ∙ (one-member k j).1 e)
