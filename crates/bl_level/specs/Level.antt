use Rattle.std.specs.Prelude.{◌≡◌, ℕ, ◌≤◌, Bool, ◌&&◌, nat_le, ◌==◌, bit_and, bit_or, max}
use Rattle.std.specs.Int.{bit_at}

-- a level (Bell and La Padula 1976): a rank, and the set of the categories whose bits are set
pub record SecurityLevel : Type 0 where
  pub rank : ℕ
  pub categories : ℕ

-- category k is a member of the level's set
abbrev pub HasCategory : SecurityLevel → ℕ → Type 0
HasCategory level k = bit_at level.categories k ≡ 1

-- a dominates b (Bell and La Padula 1976): its rank is at least b's, and each category of b is one of a
pub record Dominates (a b : SecurityLevel) : Type 0 where
  pub rank : b.rank ≤ a.rank
  pub categories : (k : ℕ) → HasCategory b k → HasCategory a k

-- whether a dominates b
abbrev pub dominates : SecurityLevel → SecurityLevel → Bool
dominates a b = nat_le b.rank a.rank && (bit_and a.categories b.categories == b.categories)

-- the greater rank, and the categories of either
abbrev pub join_of : SecurityLevel → SecurityLevel → SecurityLevel
join_of a b = record { rank = max a.rank b.rank; categories = bit_or a.categories b.categories }
