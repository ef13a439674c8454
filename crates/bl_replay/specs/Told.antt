-- What a monitor has been told of an admission order.
use Rattle.std.specs.Prelude.{◌≡◌, ℕ, ◌<◌, ◌≤◌, Bool, List, length, take}
use Rattle.bl_setup.specs.Setup.{Setup}
use Rattle.bl_order.specs.Order.{Entry}
use Rattle.bl_monitor.specs.Heard.{Heard}
use Rattle.bl_monitor.specs.Heard as heard

-- The monitor was told the first entries of the order, each lost where the marks say so.
pub record IsTold (setup : Setup) (marks : ℕ → Bool) (order : List Entry) (h : Heard) : Type 0 where
  pub setup_is : h.setup ≡ setup
  pub told : h.order ≡ take (length h.order) order
  pub marked : (k : ℕ) → k < length h.order → heard.is_lost h k ≡ marks k
  pub few : length h.order ≤ length order
