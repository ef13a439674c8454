-- What every state that a trail leads to keeps from one event to the next.
use Rattle.std.specs.Prelude.{◌≡◌, ℕ, ◌<◌, Bool, ◌||◌, IsTrue, List, length, slice_index_or}
use Rattle.bl_order.specs.Order.{Entry, Line, Child, conflict}
use Rattle.bl_order.specs.Past.{no_entry, is_done}
use Rattle.bl_order.specs.Machine.{State, past_at, has_ended, runs}

-- the place runs or has ended
abbrev pub has_begun : State → ℕ → Bool
has_begun x n = runs x n || has_ended x n

-- what has begun has nothing before it that it conflicts with and that has not ended
abbrev pub IsOrderly : State → Type 0
IsOrderly x =
    (m n : ℕ) → m < n → n < length x.order → IsTrue (has_begun x n) → IsTrue (conflict (past_at x m).task (past_at x n).task)
    → IsTrue (has_ended x m)

-- a child's parent stands before n and has ended
abbrev pub HasParent : (ℕ → Bool) → ℕ → Entry → Type 0
HasParent ended n (Line session ordinal subject work) = Unit {0}
HasParent ended n (Child parent which) = (parent < n) × IsTrue (ended parent)

-- each child stands after its parent, which has ended
abbrev pub HaveParents : (ℕ → Bool) → List Entry → Type 0
HaveParents ended order = (n : ℕ) → n < length order → HasParent ended n (slice_index_or order n no_entry)

pub record IsSound (x : State) : Type 0 where
  pub as_many : length x.phases ≡ length x.order
  pub orderly : IsOrderly x
  pub parents : HaveParents (has_ended x) x.order
  pub allowed : (n : ℕ) → n < length x.order → IsTrue (runs x n) → IsTrue (is_done (past_at x n).answer)
