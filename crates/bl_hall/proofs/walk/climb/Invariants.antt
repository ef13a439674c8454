use Rattle.std.proofs.Common.{◌≡◌, ◌<◌, ◌++◌, length}
use Rattle.std.specs.Prelude.{reverse}
use Rattle.bl_order.specs.Labels.{tag}
use Rattle.bl_hall.proofs.walk.climb.Given as goal

abbrev pub invariant-up : goal.invariant-up
invariant-up l =
    (l.at < length l.core.order) × ((tag l.core.order l.n).label ≡ (tag l.core.order l.at).label ++ reverse l.label.items)

abbrev pub decreases-up : goal.decreases-up
decreases-up l = l.at
