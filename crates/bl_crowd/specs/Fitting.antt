-- What a quota says of the lines that members ask, and of those that were admitted.
use Rattle.std.specs.Prelude.{ℕ, Option, Some, None, take}
use Rattle.bl_order.specs.Machine as machine
use Rattle.bl_order.specs.Machine.{State, Event}
use Rattle.bl_hall.specs.Chronicle.{state_now}
use Rattle.bl_gate.specs.Gates.{PassView, hall_with}
use Rattle.bl_worker.specs.Turns.{Adds}
use Rattle.bl_engine.specs.declared.request.Request.{Request}
use Rattle.bl_engine.specs.declared.request.Request.TheVariants.{Opens, Admits, Settles}
use Rattle.bl_quota.specs.Quotas.{IsAllowed}
use Rattle.bl_quota.specs.declared.quota.Fit.{Fit}
use Rattle.bl_quota.specs.declared.quota.Fit.TheVariants.{Now}

-- a line is asked, and this is what a quota says of it in this state, where what it counts is known
abbrev pub IsHeldBack : (known : Type 0) → Option ℕ → State → Option Request → Fit → Type 0
IsHeldBack known bound x (Some (Admits ordinal work)) fit = known → IsAllowed bound x work fit
IsHeldBack known bound x (Some (Opens subject)) fit = ⊥
IsHeldBack known bound x (Some Settles) fit = ⊥
IsHeldBack known bound x None fit = ⊥

-- a line that stands at this position of what the pass has seen fit in the state before it
abbrev pub HadRoom : Option ℕ → PassView → ℕ → Event → Type 0
HadRoom bound pass position (machine.Opens subject) = Unit {0}
HadRoom bound pass position (machine.Admits session ordinal work) =
    IsAllowed bound (state_now (hall_with pass.gate.base (take position pass.seen))) work Now
HadRoom bound pass position (machine.Starts n) = Unit {0}
HadRoom bound pass position (machine.Ends n) = Unit {0}
HadRoom bound pass position (machine.Loses n) = Unit {0}

-- each line that the pass has admitted since then fit where it was admitted
abbrev pub AdmitsWhatFits : Option ℕ → (before after : PassView) → Type 0
AdmitsWhatFits bound before after = Adds (HadRoom bound after) before after
