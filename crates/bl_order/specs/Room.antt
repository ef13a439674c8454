-- How many places the admission order may come to have.
use Rattle.std.specs.Prelude.{ℕ, ◌+◌, ◌-◌, ◌<◌, ◌≤◌, if◌then◌else◌, length, sum_by}
use Rattle.std.specs.List.{range_with_len}
use Rattle.bl_work.specs.Nesting.{size_at}
use Rattle.bl_work.specs.Script.{IsScript}
use Rattle.bl_order.specs.Order.{Task, Runs, Applies}
use Rattle.bl_order.specs.Machine.{State, past_at, has_ended, entry_weight}

-- the task is one of the behaviours of a script, or it is a rule
abbrev pub IsBehaviourOrRule : Task → Type 0
IsBehaviourOrRule (Runs script index) = IsScript script × (index < length script)
IsBehaviourOrRule (Applies rule) = Unit {0}

-- how many places a task may spawn, with all that these spawn: a behaviour one for each behaviour within it, and a rule none
abbrev pub may_spawn : Task → ℕ
may_spawn (Runs script index) = size_at script index - 1
may_spawn (Applies rule) = 0

-- how many places may still come of place n: none once it has ended
abbrev pub still_to_come : State → ℕ → ℕ
still_to_come x n = if has_ended x n then 0 else may_spawn (past_at x n).task

-- how many places may still come of all places of the order
abbrev pub all_to_come : State → ℕ
all_to_come x = sum_by (still_to_come x) (range_with_len 0 (length x.order))

-- what the admitted lines weigh
abbrev pub admitted_weight : State → ℕ
admitted_weight x = sum_by entry_weight x.order

-- Room: the places that stand and those that may still come are no more than what was admitted weighs, and that is within the limit.
pub record HasRoom (x : State) : Type 0 where
  pub within_weight : length x.order + all_to_come x ≤ admitted_weight x
  pub within_limit : admitted_weight x ≤ x.limit
