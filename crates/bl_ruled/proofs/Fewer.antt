-- How many events are asked for, while they are counted.
use Rattle.std.proofs.Common.{◌≡◌, ◌⊎◌, ◌+◌, ◌<◌, ◌≤◌, ℕ, ap, arith, inl, inr}
use Rattle.std.specs.Prelude.{Option, Some, None}
use Rattle.bl_ruled.specs.Noting.{IsBelow}

-- no more than are asked for, where a number is asked for
abbrev pub IsUpTo : Option ℕ → ℕ → Type 0
IsUpTo None count = Unit {0}
IsUpTo (Some most) count = count ≤ most

pub up-none : (most : Option ℕ) → IsUpTo most 0
up-none None = tt
up-none (Some most) = omega arith

pub up-next : (most : Option ℕ) (count : ℕ) → IsBelow most count → IsUpTo most (count + 1)
up-next None count below = tt
up-next (Some most) count below = omega (arith, below)

below_or_not : (a b : ℕ) → (a < b) ⊎ (b ≤ a)
below_or_not a b = grind arith

pub still-below : (most : Option ℕ) (count : ℕ) → IsUpTo most count → (most ≡ Some count → ⊥) → IsBelow most count
still-below None count up not = tt
still-below (Some most) count up not = go (below_or_not count most)
  where
    go : (count < most) ⊎ (most ≤ count) → count < most
    go (inl lt) = lt
    go (inr le) = absurd (not (ap Some (omega (arith, up, le))))
