-- What a place spawns is within what its task may spawn.
use Rattle.std.proofs.Common.{ℕ, ◌≤◌, ◌<◌, ◌+◌, Bool, true, false, cond, List, [], length, get_or, arith}
use Rattle.std.specs.Prelude.{sum_by}
use Rattle.bl_work.specs.Effects.{Effect, children}
use Rattle.bl_work.specs.Nesting.{size_at}
use Rattle.bl_setup.specs.Setup.{Setup}
use Rattle.bl_order.specs.Order.{Entry, Task, Runs, Applies}
use Rattle.bl_order.specs.Past.{earlier, place, is_done, content_of, child_task, deeds}
use Rattle.bl_order.specs.Room.{IsBehaviourOrRule, may_spawn}
use Rattle.bl_order.proofs.Spawning.{child-there, sizes-children, size_is_some}

-- how many places a child of the task may come to, itself among them
abbrev pub child_size : Task → ℕ → ℕ
child_size (Runs script index) j = size_at script j
child_size (Applies rule) j = 0

-- the children of these effects come, all together, to no more than the task may spawn, and each is a behaviour of the same script
pub record Spawns (task : Task) (es : List Effect) : Type 0 where
  pub sizes : sum_by (child_size task) (children es) ≤ may_spawn task
  pub each : (i : ℕ) → i < length (children es) → IsBehaviourOrRule (child_task task (get_or (children es) i 0))
  pub one : (i : ℕ) → i < length (children es) → may_spawn (child_task task (get_or (children es) i 0)) + 1 ≤ child_size task (get_or (children es) i 0)

spawns_nothing : (task : Task) → Spawns task []
spawns_nothing task = record { sizes = omega arith; each = λ i lt. absurd (omega arith); one = λ i lt. absurd (omega arith) }

-- what a task does
spawns_by_deeds : (task : Task) (contents : ℕ → List ℕ) → IsBehaviourOrRule task → Spawns task (deeds task contents)
spawns_by_deeds (Applies rule) contents is = spawns_nothing (Applies rule)
spawns_by_deeds (Runs script index) contents is = record {
  sizes = sizes-children script is.0.preorder index is.1 _;
  each = λ i lt. (is.0, child-there script is.0.preorder index is.1 _ i 0 lt);
  one = λ i lt. omega (arith, size_is_some script is.0.preorder _ (child-there script is.0.preorder index is.1 _ i 0 lt));
}

-- the effects of a place
pub spawns_at_place : (s : Setup) (l : ℕ → Bool) (A : List Entry) (n : ℕ) → IsBehaviourOrRule (place s l A n).task → Spawns (place s l A n).task (place s l A n).effects
spawns_at_place s l A n is = go (is_done (place s l A n).answer)
  where
    go : (b : Bool) → Spawns (place s l A n).task (cond b (deeds (place s l A n).task (content_of s (earlier s l A n))) [])
    go true = spawns_by_deeds (place s l A n).task (content_of s (earlier s l A n)) is
    go false = spawns_nothing (place s l A n).task
