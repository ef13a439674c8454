-- Counts of bytes in 64 bits, and how they stay right while a run goes on.
use Rattle.std.specs.Prelude.{◌≡◌, ℕ, ◌+◌, ◌-◌, ◌≤◌, ◌^◌, min, List, length, slice_index_or, sum_by}
use Rattle.std.specs.List.{range_with_len}
use Rattle.bl_order.specs.Past.{no_entry}
use Rattle.bl_order.specs.Machine.{State, Event, IsTrail, state_after}
use Rattle.bl_sizes.specs.Sizes.{added_by, full_size}

-- own choice: a number of bytes in 64 bits; what is more counts as the greatest
abbrev pub in_word : ℕ → ℕ
in_word bytes = min bytes (2 ^ 64 - 1)

-- a run goes on from one state to another
pub record LeadsOn (x y : State) : Type 0 where
  pub events : List Event
  pub steps : IsTrail x events
  pub leads : y ≡ state_after x events

-- what the entry of a place may add
abbrev pub added_at : State → ℕ → ℕ
added_at x n = added_by x.setup.names (slice_index_or x.order n no_entry)

-- what the entries at and behind a place may add
abbrev pub added_behind : State → ℕ → ℕ
added_behind x n = sum_by (added_at x) (range_with_len n (length x.order - n))

-- the count has all that may come of the lines before a place of the order
pub record IsCounted (x : State) (count place : ℕ) : Type 0 where
  pub there : place ≤ length x.order
  pub all : in_word (full_size x) ≤ count + added_behind x place
