-- What the test of dominance and the join say of sets of categories.
use Rattle.std.proofs.Common.{◌≡◌, ℕ, ◌≤◌, ◌&&◌, true, arith, inl, inr, ◌⊎◌}
use Rattle.std.specs.Prelude.{IsTrue, bit_and, nat_le, ◌==◌, ◌↔◌}
use Rattle.std.proofs.lemmas.Bool.Decides.{nat_tests}
use Rattle.bl_level.specs.Level.{SecurityLevel, HasCategory, dominates, Dominates, join_of}
use Rattle.bl_level.proofs.Masks.{subset-and, and-subset, same_members, or-member}

both : (x y m n : ℕ) → (nat_le x y && (m == n)) ≡ true → (x ≤ y) × (m ≡ n)
both x y m n h = grind (arith, nat_tests)

both_back : (x y m n : ℕ) → x ≤ y → m ≡ n → (nat_le x y && (m == n)) ≡ true
both_back x y m n h k = grind (arith, nat_tests)

-- the test holds just where the level dominates the other
pub dominates-sets : (a b : SecurityLevel) → IsTrue (dominates a b) ↔ Dominates a b
dominates-sets a b = (
  (λ h. let t : (b.rank ≤ a.rank) × (bit_and a.categories b.categories ≡ b.categories) = both b.rank a.rank (bit_and a.categories b.categories) b.categories h in
      record { rank = t.0; categories = subset-and a.categories b.categories t.1 }),
  (λ d. both_back b.rank a.rank (bit_and a.categories b.categories) b.categories d.rank (and-subset a.categories b.categories d.categories)),
)

-- levels that dominate each other are one
pub dominance-antisymmetric : (a b : SecurityLevel) → Dominates a b → Dominates b a → a ≡ b
dominance-antisymmetric a b d e =
    let ranks : a.rank ≡ b.rank = omega (arith, d.rank, e.rank) in
    let sets : a.categories ≡ b.categories = same_members a.categories b.categories e.categories d.categories in
    λ i. record { rank = ranks i; categories = sets i }

-- a category of the join is one of either
pub join-union : (a b : SecurityLevel) (k : ℕ) → HasCategory (join_of a b) k ↔ (HasCategory a k ⊎ HasCategory b k)
join-union a b k = or-member a.categories b.categories k

pub join-above_first : (a b : SecurityLevel) → Dominates (join_of a b) a
join-above_first a b = record { rank = omega arith; categories = λ k h. (join-union a b k).1 (inl h) }

pub join-above_second : (a b : SecurityLevel) → Dominates (join_of a b) b
join-above_second a b = record { rank = omega arith; categories = λ k h. (join-union a b k).1 (inr h) }

-- what dominates both dominates their join
pub join-least : (a b above : SecurityLevel) → Dominates above a → Dominates above b → Dominates above (join_of a b)
join-least a b above d e = record { rank = omega (arith, d.rank, e.rank); categories = λ k h. either k ((join-union a b k).0 h) }
  where
    either : (k : ℕ) → HasCategory a k ⊎ HasCategory b k → HasCategory above k
    either k (inl h) = d.categories k h
    either k (inr h) = e.categories k h

-- at a rank that is high enough, the sets decide
pub dominates_by_sets : (a b : SecurityLevel) → b.rank ≤ a.rank → IsTrue (bit_and a.categories b.categories == b.categories) ↔ Dominates a b
dominates_by_sets a b high = (
  (λ h. record { rank = high; categories = subset-and a.categories b.categories (grind (arith, nat_tests)) }),
  (λ d. let same : bit_and a.categories b.categories ≡ b.categories = and-subset a.categories b.categories d.categories in grind (arith, nat_tests)),
)
