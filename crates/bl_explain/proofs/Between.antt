-- At which current levels the star property holds.
use Rattle.std.proofs.Common.{◌≡◌, ℕ, Bool, true, false, refl, sym, subst, arith, inl, inr, ◌⊎◌, true≢false}
use Rattle.std.specs.Prelude.{bit_and, ◌↔◌, IsTrue, if◌then◌else◌}
use Rattle.std.specs.Int.{bit_at}
use Rattle.std.proofs.lemmas.Nat.Bits.{bit_at_and, bit_at-lt}
use Rattle.bl_level.specs.Level.{SecurityLevel, Dominates}
use Rattle.bl_policy.specs.declared.access.Mode.{Mode}
use Rattle.bl_policy.specs.declared.access.Mode.TheVariants.{Read, Append, Write}
use Rattle.bl_policy.specs.Policy.{lowest}
use Rattle.bl_policy.specs.Properties.{Flows, Observes}
use Rattle.bl_policy.proofs.Properties.{above-lowest}
use Rattle.bl_explain.specs.declared.range.LevelRange.{LevelRange}
use Rattle.bl_explain.specs.Ranges.{meet_of, star_range}

-- a category of the meet is one of both
meet-first : (a b k : ℕ) → bit_at (bit_and a b) k ≡ 1 → bit_at a k ≡ 1
meet-first a b k h = omega (arith, bit_at_and a b k, bit_at-lt a k, bit_at-lt b k)

meet-second : (a b k : ℕ) → bit_at (bit_and a b) k ≡ 1 → bit_at b k ≡ 1
meet-second a b k h = omega (arith, bit_at_and a b k, bit_at-lt a k, bit_at-lt b k)

meet-both : (a b k : ℕ) → bit_at a k ≡ 1 → bit_at b k ≡ 1 → bit_at (bit_and a b) k ≡ 1
meet-both a b k h i = omega (arith, bit_at_and a b k)

-- what the meet dominates is what both dominate
meet-dominates : (a b c : SecurityLevel) → (Dominates a c × Dominates b c) ↔ Dominates (meet_of a b) c
meet-dominates a b c = (
  (λ both. record { rank = omega (arith, both.0.rank, both.1.rank); categories = λ k h. meet-both a.categories b.categories k (both.0.categories k h) (both.1.categories k h) }),
  (λ d. (
    record { rank = omega (arith, d.rank); categories = λ k h. meet-first a.categories b.categories k (d.categories k h) },
    record { rank = omega (arith, d.rank); categories = λ k h. meet-second a.categories b.categories k (d.categories k h) },
  )),
)

dominates-itself : (c : SecurityLevel) → Dominates c c
dominates-itself c = record { rank = omega arith; categories = λ k h. h }

abbrev pub Antisymmetric : Type 0
Antisymmetric = (a b : SecurityLevel) → Dominates a b → Dominates b a → a ≡ b

-- the level dominates the lowest level of the range, and the highest dominates it
abbrev pub IsWithin : LevelRange → SecurityLevel → Type 0
IsWithin range level = Dominates level range.lowest × Dominates range.highest level

between : Antisymmetric → (greatest level current : SecurityLevel) (m : Mode) → Observes greatest level m
    → (Dominates greatest current × Flows current level m) ↔ IsWithin (star_range greatest level m) current
between anti greatest level current Read o = ((λ h. (h.1, h.0)), (λ b. (b.1, b.0)))
between anti greatest level current Append o =
    ((λ h. (above-lowest current, (meet-dominates greatest level current).0 h)), (λ b. (meet-dominates greatest level current).1 b.1))
between anti greatest level current Write o = (
  (λ h. (subst (λ l. Dominates current l) h.1 (dominates-itself current), subst (λ l. Dominates l current) h.1 (dominates-itself current))),
  (λ b. let same : current ≡ level = anti current level b.0 b.1 in (subst (λ l. Dominates greatest l) (sym same) o, same)),
)

-- the same of a subject that is trusted or not
pub bound : Antisymmetric → (greatest level current : SecurityLevel) (m : Mode) (trusted : Bool) → Observes greatest level m
    → (Dominates greatest current × (IsTrue trusted ⊎ Flows current level m))
    ↔ IsWithin (if trusted then record { lowest = lowest; highest = greatest } else star_range greatest level m) current
bound anti greatest level current m true o = ((λ h. (above-lowest current, h.0)), (λ b. (b.1, inl refl)))
bound anti greatest level current m false o = (
  (λ h. elim h.1 [
    | inl trusts ↦ absurd (true≢false (sym trusts))
    | inr flows ↦ (between anti greatest level current m o).0 (h.0, flows)
  ]),
  (λ b. let parts = (between anti greatest level current m o).1 b in (parts.0, inr parts.1)),
)

-- the highest level of it dominates the lowest
pub wide : (greatest level : SecurityLevel) (m : Mode) (trusted : Bool) → Observes greatest level m
    → Dominates (if trusted then record { lowest = lowest; highest = greatest } else star_range greatest level m).highest
    (if trusted then record { lowest = lowest; highest = greatest } else star_range greatest level m).lowest
wide greatest level m true o = above-lowest greatest
wide greatest level Read false o = o
wide greatest level Append false o = above-lowest (meet_of greatest level)
wide greatest level Write false o = dominates-itself level
