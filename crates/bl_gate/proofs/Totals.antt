-- Sums over all views, after one view changes.
use Rattle.std.proofs.Common.{◌≡◌, ◌≢◌, ℕ, zero, suc, ◌+◌, ◌-◌, ◌<◌, ◌≤◌, ◌⊎◌, inl, inr, List, [], ◌∷◌, ◌++◌, eqb, set, refl, sym, ap, ◌∙◌, arith}
use Rattle.std.proofs.lemmas.Bool.Decides.{nat_tests}
use mathlib.Core.Option.{some, some-injective, some-ne-none}
use mathlib.Core.Logic.{dite}
use native.Mathlib.Decide.{ℕ_discrete}
use lib.ListN.{get_elem?}
use Rattle.bl_gate.specs.Counts.{one_if, within, times, from, gained, total}

module _ {A : Type 0} (f : A → ℕ) where
  pub total_set : (l : List A) (i : ℕ) (v w : A) → get_elem? l i ≡ some v → total f (set l i w) + f v ≡ total f l + f w
  total_set [] i v w e = absurd (some-ne-none v (sym e))
  total_set (x ∷ xs) zero v w e = let h : f x ≡ f v = ap f (some-injective x v e) in omega arith
  total_set (x ∷ xs) (suc i) v w e = let h = total_set xs i v w e in omega arith

  pub total_snoc : (l : List A) (w : A) → total f (l ++ w ∷ []) ≡ total f l + f w
  total_snoc [] w = omega arith
  total_snoc (x ∷ xs) w = let h = total_snoc xs w in omega arith

  pub one_of : (l : List A) (i : ℕ) (v : A) → get_elem? l i ≡ some v → f v ≤ total f l
  one_of [] i v e = absurd (some-ne-none v (sym e))
  one_of (x ∷ xs) zero v e = let h : f x ≡ f v = ap f (some-injective x v e) in omega arith
  one_of (x ∷ xs) (suc i) v e = let h = one_of xs i v e in omega arith

  pub two_of : (l : List A) (i j : ℕ) (v w : A) → i ≢ j → get_elem? l i ≡ some v → get_elem? l j ≡ some w → f v + f w ≤ total f l
  two_of [] i j v w n e d = absurd (some-ne-none v (sym e))
  two_of (x ∷ xs) zero zero v w n e d = absurd (n refl)
  two_of (x ∷ xs) zero (suc j) v w n e d = let h : f x ≡ f v = ap f (some-injective x v e) in let k = one_of xs j w d in omega arith
  two_of (x ∷ xs) (suc i) zero v w n e d = let h : f x ≡ f w = ap f (some-injective x w d) in let k = one_of xs i v e in omega arith
  two_of (x ∷ xs) (suc i) (suc j) v w n e d = let h = two_of xs i j v w (λ s. n (ap suc s)) e d in omega arith

-- some element has its share of a sum that is not nothing
pub some_of : {A : Type 0} (f : A → ℕ) (l : List A) → 1 ≤ total f l → (i : ℕ) × (v : A) × (get_elem? l i ≡ some v) × (1 ≤ f v)
some_of f [] h = absurd (omega arith)
some_of f (x ∷ xs) h = dite (ℕ_discrete (f x) 0)
    (λ z. let d = some_of f xs (omega arith) in (suc d.0, d.1, d.2, d.3))
    (λ no. (0, x, refl, omega arith))

pub within_in : (a b x : ℕ) → a ≤ x → x < b → within a b x ≡ 1
within_in a b x p q = grind (arith, nat_tests)

pub within_out : (a b x : ℕ) → (x < a) ⊎ (b ≤ x) → within a b x ≡ 0
within_out a b x (inl p) = grind (arith, nat_tests)
within_out a b x (inr p) = grind (arith, nat_tests)

pub within_le : (a b x : ℕ) → within a b x ≤ 1
within_le a b x = grind (arith, nat_tests)

pub within_some : (a b x : ℕ) → 1 ≤ within a b x → (a ≤ x) × (x < b)
within_some a b x p = (grind (arith, nat_tests), grind (arith, nat_tests))

-- one more at the end, and one less at the start
pub within_more : (a b x : ℕ) → a ≤ b → within a (b + 1) x ≡ within a b x + one_if (eqb b x)
within_more a b x p = grind (arith, nat_tests)

pub within_less : (a b x : ℕ) → a < b → within (a + 1) b x + one_if (eqb a x) ≡ within a b x
within_less a b x p = grind (arith, nat_tests)

pub within_none : (a x : ℕ) → within a a x ≡ 0
within_none a x = grind (arith, nat_tests)

pub times-append : (x : ℕ) (ys zs : List ℕ) → times x (ys ++ zs) ≡ times x ys + times x zs
times-append x [] zs = omega arith
times-append x (y ∷ ys) zs = let h = times-append x ys zs in omega arith

-- up to some number, and from there on
pub within_then : (a b c x : ℕ) → a ≤ b → b ≤ c → within a b x + within b c x ≡ within a c x
within_then a b c x p q = grind (arith, nat_tests)

-- ---- positions in a row

from-append : (a m n : ℕ) → from a (m + n) ≡ from a m ++ from (a + m) n
from-append a zero n = ap (from a) (let e : 0 + n ≡ n = omega arith in e) ∙ ap (λ (k : ℕ). from k n) (let e : a ≡ a + 0 = omega arith in e)
from-append a (suc m) n =
    ap (from a) (let e : suc m + n ≡ suc (m + n) = omega arith in e)
    ∙ (ap (λ (l : List ℕ). a ∷ l) (from-append (a + 1) m n)
    ∙ ap (λ (k : ℕ). a ∷ (from (a + 1) m ++ from k n)) (let e : a + 1 + m ≡ a + suc m = omega arith in e))

times-from : (a n x : ℕ) → times x (from a n) ≡ within a (a + n) x
times-from a zero x = sym (within_none a x) ∙ ap (λ (k : ℕ). within a k x) (let e : a ≡ a + 0 = omega arith in e)
times-from a (suc n) x =
    let h = times-from (a + 1) n x in
    let k : within (a + 1) (a + 1 + n) x ≡ within (a + 1) (a + suc n) x = ap (λ (b : ℕ). within (a + 1) b x) (omega arith) in
    let j = within_less a (a + suc n) x (omega arith) in omega arith

-- each position between two lengths is gained once
pub times-gained : (a b x : ℕ) → a ≤ b → times x (gained a b) ≡ within a b x
times-gained a b x l = times-from a (b - a) x ∙ ap (λ (k : ℕ). within a k x) (let e : a + (b - a) ≡ b = omega arith in e)

pub gained_none : (a : ℕ) → gained a a ≡ []
gained_none a = ap (from a) (let e : a - a ≡ 0 = omega arith in e)

pub gained_one : (a b : ℕ) → b ≡ a + 1 → gained a b ≡ a ∷ []
gained_one a b next = ap (from a) (let e : b - a ≡ 1 = omega arith in e)

pub gained_then : (a b c : ℕ) → a ≤ b → b ≤ c → gained a c ≡ gained a b ++ gained b c
gained_then a b c p q =
    ap (from a) (let e : c - a ≡ (b - a) + (c - b) = omega arith in e)
    ∙ (from-append a (b - a) (c - b)
    ∙ ap (λ (k : ℕ). gained a b ++ from k (c - b)) (let e : a + (b - a) ≡ b = omega arith in e))
