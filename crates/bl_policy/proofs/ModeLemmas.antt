-- Sets of modes as numbers.
use Rattle.std.proofs.Common.{◌≡◌, ℕ, ◌*◌, ◌-◌, ◌^◌, ◌<◌, Bool, true, false, not, ◌&&◌, ◌||◌, ◌==◌, cond, min, max, refl, sym, ◌∙◌, ap, arith, inl, inr, ◌⊎◌}
use Rattle.std.specs.Prelude.{bit_and, bit_or}
use Rattle.std.specs.Int.{bit_at}
use Rattle.std.proofs.lemmas.Nat.Bits.{bit_at_and, bit_at_or, bit_at-lt, and_pow}
use Rattle.std.proofs.lemmas.Nat.{or_lt, and_le_l, and_le_r}
use Rattle.bitflags.specs.Sets.{without}
use Rattle.bl_policy.specs.declared.access.Mode.{Mode}
use Rattle.bl_policy.specs.declared.access.Mode.TheVariants.{Read, Append, Write}
use Rattle.bl_policy.specs.declared.access.ModeSet.{ModeSet}
use Rattle.bl_policy.specs.Mode.{place_of, flag_of, has_mode}

bit_cases : (n k : ℕ) → (bit_at n k ≡ 0) ⊎ (bit_at n k ≡ 1)
bit_cases n k = let l : bit_at n k < 2 = bit_at-lt n k in grind arith

flag_times : (v k : ℕ) (m : Mode) → (v ≡ 0) ⊎ (v ≡ 1) → (v * flag_of m == flag_of m) ≡ (v == 1)
flag_times v k Read (inl e) = ap (λ v. v * 1 == 1) e ∙ sym (ap (λ v. v == 1) e)
flag_times v k Read (inr e) = ap (λ v. v * 1 == 1) e ∙ sym (ap (λ v. v == 1) e)
flag_times v k Append (inl e) = ap (λ v. v * 2 == 2) e ∙ sym (ap (λ v. v == 1) e)
flag_times v k Append (inr e) = ap (λ v. v * 2 == 2) e ∙ sym (ap (λ v. v == 1) e)
flag_times v k Write (inl e) = ap (λ v. v * 4 == 4) e ∙ sym (ap (λ v. v == 1) e)
flag_times v k Write (inr e) = ap (λ v. v * 4 == 4) e ∙ sym (ap (λ v. v == 1) e)

-- a number has the flag of a mode just where the mode is in the set
pub flag-has_mode : (set : ModeSet) (m : Mode) → (bit_and set.0 (flag_of m) == flag_of m) ≡ has_mode set m
flag-has_mode set m =
    ap (λ n. n == flag_of m) (and_pow set.0 (place_of m))
    ∙ flag_times (bit_at set.0 (place_of m)) (place_of m) m (bit_cases set.0 (place_of m))

named : (m : Mode) → bit_at 7 (place_of m) ≡ 1
named Read = refl
named Append = refl
named Write = refl

either : (x y : ℕ) → (x ≡ 0) ⊎ (x ≡ 1) → (y ≡ 0) ⊎ (y ≡ 1) → (max x (min y 1) == 1) ≡ ((x == 1) || (y == 1))
either x y (inl e) (inl f) = (λ i. max (e i) (min (f i) 1) == 1) ∙ sym (λ i. (e i == 1) || (f i == 1))
either x y (inl e) (inr f) = (λ i. max (e i) (min (f i) 1) == 1) ∙ sym (λ i. (e i == 1) || (f i == 1))
either x y (inr e) (inl f) = (λ i. max (e i) (min (f i) 1) == 1) ∙ sym (λ i. (e i == 1) || (f i == 1))
either x y (inr e) (inr f) = (λ i. max (e i) (min (f i) 1) == 1) ∙ sym (λ i. (e i == 1) || (f i == 1))

-- the modes of a set to which the modes of another are added
pub has_mode-or : (a b : ℕ) (m : Mode) → has_mode (record { 0 = bit_or a (bit_and b 7) }) m ≡ (has_mode (record { 0 = a }) m || has_mode (record { 0 = b }) m)
has_mode-or a b m =
    ap (λ n. n == 1) (bit_at_or a (bit_and b 7) (place_of m) ∙ ap (λ n. max (bit_at a (place_of m)) n) (bit_at_and b 7 (place_of m) ∙ ap (λ n. min (bit_at b (place_of m)) n) (named m)))
    ∙ either (bit_at a (place_of m)) (bit_at b (place_of m)) (bit_cases a (place_of m)) (bit_cases b (place_of m))

-- no bit but those of the three modes is added
pub or-small : (a b : ℕ) → a < 8 → bit_or a (bit_and b 7) < 8
or-small a b h = let l : bit_and b 7 < 8 = omega (arith, and_le_r b 7) in or_lt 3 a (bit_and b 7) h l

kept : (m n : Mode) → bit_at (2 ^ 8 - 1 - flag_of m) (place_of n) ≡ cond (place_of m == place_of n) 0 1
kept Read Read = refl
kept Read Append = refl
kept Read Write = refl
kept Append Read = refl
kept Append Append = refl
kept Append Write = refl
kept Write Read = refl
kept Write Append = refl
kept Write Write = refl

bit_without : (x : ℕ) (b : Bool) → (x ≡ 0) ⊎ (x ≡ 1) → (min x (cond b 0 1) == 1) ≡ (not b && (x == 1))
bit_without x true (inl e) = ap (λ v. min v 0 == 1) e
bit_without x true (inr e) = ap (λ v. min v 0 == 1) e
bit_without x false (inl e) = ap (λ v. min v 1 == 1) e ∙ sym (ap (λ v. v == 1) e)
bit_without x false (inr e) = ap (λ v. min v 1 == 1) e ∙ sym (ap (λ v. v == 1) e)

-- the modes of a set from which one is taken
pub has_mode-without : (a : ℕ) (m n : Mode) → has_mode (record { 0 = without 8 a (flag_of m) }) n ≡ (not (place_of m == place_of n) && has_mode (record { 0 = a }) n)
has_mode-without a m n =
    ap (λ v. v == 1) (bit_at_and a (2 ^ 8 - 1 - flag_of m) (place_of n) ∙ ap (λ v. min (bit_at a (place_of n)) v) (kept m n))
    ∙ bit_without (bit_at a (place_of n)) (place_of m == place_of n) (bit_cases a (place_of n))

-- no bit is added
pub without-small : (a b : ℕ) → a < 8 → without 8 a b < 8
without-small a b h = omega (arith, and_le_l a (2 ^ 8 - 1 - b), h)
