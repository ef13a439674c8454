-- The lineage of a place: what may have come to it from those above it (own choice, for what a behaviour remembers).
use Rattle.std.specs.Prelude.{◌≡◌, ℕ, false, IsTrue, List, Some, slice_get}
use Rattle.bl_level.specs.Level.{Dominates}
use Rattle.bl_policy.specs.Policy.{is_trusted, level_of}
use Rattle.bl_work.specs.Modes.{declares, observes}
use Rattle.bl_order.specs.Machine.{State, past_at}
use Rattle.bl_order.specs.Now.{policy_at}
use Rattle.bl_order.specs.Order.{Entry, Child, accesses_of}
use Rattle.bl_order.specs.Past.{is_done, may_alter}

-- m is n, or the parent of n, or stands above that
pub data IsInLineage (order : List Entry) (m : ℕ) : ℕ → Type 0 where
  Itself : (n : ℕ) → m ≡ n → IsInLineage order m n
  Above : (n parent which : ℕ) → slice_get order n ≡ Some (Child parent which) → IsInLineage order m parent → IsInLineage order m n

-- What n declares append or write dominates what m declares read or write, each by the policy at its place.
abbrev pub AltersAbove : State → ℕ → ℕ → Type 0
AltersAbove x n m =
    (altered seen : ℕ) → IsTrue (may_alter (past_at x n).task altered) → IsTrue (declares observes (accesses_of (past_at x m).task) seen)
    → Dominates (level_of (policy_at x n) altered) (level_of (policy_at x m) seen)

-- Lineage: where an untrusted subject's place runs, what it may alter dominates all that its lineage may look at.
abbrev pub KeepsItsLineage : State → ℕ → Type 0
KeepsItsLineage x n =
    is_trusted (policy_at x n) (past_at x n).subject ≡ false → IsTrue (is_done (past_at x n).answer)
    → (m : ℕ) → IsInLineage x.order m n → AltersAbove x n m
