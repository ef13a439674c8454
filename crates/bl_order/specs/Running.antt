-- What goes on where a place runs.
use Rattle.std.specs.Prelude.{◌≡◌, ℕ, IsTrue}
use Rattle.bl_order.specs.Order.{accesses_of, is_declared}
use Rattle.bl_order.specs.Machine.{State, past_at, runs}
use Rattle.bl_order.specs.Now.{content_at}

-- A place runs in a later state too; what is said of it is as it was, and so is the content at it of each document that it declares.
pub record GoesOn (before after : State) (n : ℕ) : Type 0 where
  pub running : IsTrue (runs after n)
  pub past : past_at after n ≡ past_at before n
  pub contents : (doc : ℕ) → IsTrue (is_declared (accesses_of (past_at before n).task) doc) → content_at after doc n ≡ content_at before doc n
