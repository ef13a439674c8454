-- What a place could bring below what it looked at.
use Rattle.std.specs.Prelude.{ℕ, IsTrue}
use Rattle.bl_level.specs.Level.{Dominates}
use Rattle.bl_policy.specs.Policy.{level_of}
use Rattle.bl_work.specs.Modes.{declares, observes}
use Rattle.bl_order.specs.Lineage.{IsInLineage}
use Rattle.bl_order.specs.Machine.{State, past_at}
use Rattle.bl_order.specs.Now.{policy_at}
use Rattle.bl_order.specs.Order.{accesses_of}
use Rattle.bl_order.specs.Past.{is_done, may_alter}

-- Own choice: place n runs and declares one document append or write; it, its parent or one above declares another read or write; and
-- the level of the first does not dominate that of the second, each by the policy at its place.
pub record IsWayDown (x : State) (n m seen altered : ℕ) : Type 0 where
  pub runs : IsTrue (is_done (past_at x n).answer)
  pub lineage : IsInLineage x.order m n
  pub looks : IsTrue (declares observes (accesses_of (past_at x m).task) seen)
  pub alters : IsTrue (may_alter (past_at x n).task altered)
  pub down : ¬ Dominates (level_of (policy_at x n) altered) (level_of (policy_at x m) seen)
