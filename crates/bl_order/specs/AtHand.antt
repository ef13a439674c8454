-- What is said of a place while others have not ended yet.
use Rattle.std.specs.Prelude.{◌≡◌, ℕ, ◌<◌, Bool, IsTrue, ◌⊎◌, length, slice_get, Some}
use Rattle.bl_order.specs.Order.{Child}
use Rattle.bl_order.specs.Past.{place}
use Rattle.bl_order.specs.Machine.{State, MayStart, past_at, is_lost, has_ended, runs}

-- the place has ended, or runs, or may start
abbrev pub IsAtHand : State → ℕ → Type 0
IsAtHand x n = IsTrue (has_ended x n) ⊎ (IsTrue (runs x n) ⊎ MayStart x n)

-- What is said of a place at hand rests on which ended places are lost, and on whether it is lost itself, and not on what becomes
-- of the others.
abbrev pub RestsOnEndedPlaces : State → Type 0
RestsOnEndedPlaces x =
    (others : ℕ → Bool) → ((k : ℕ) → IsTrue (has_ended x k) → is_lost x k ≡ others k)
    → (n : ℕ) → n < length x.order → IsAtHand x n → is_lost x n ≡ others n → past_at x n ≡ place x.setup others x.order n

-- each child stands after its parent, which has ended
abbrev pub ParentsHaveEnded : State → Type 0
ParentsHaveEnded x = (n parent which : ℕ) → slice_get x.order n ≡ Some (Child parent which) → (parent < n) × IsTrue (has_ended x parent)
