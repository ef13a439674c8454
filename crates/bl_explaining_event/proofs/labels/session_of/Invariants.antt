use Rattle.std.proofs.Common.{◌≡◌, ◌<◌, length}
use Rattle.bl_order.specs.Labels.{tag}
use Rattle.bl_explaining_event.proofs.labels.session_of.Given as goal

abbrev pub invariant-up : goal.invariant-up
invariant-up l = (l.at < length l.core.order) × ((tag l.core.order l.n).session ≡ (tag l.core.order l.at).session)

abbrev pub decreases-up : goal.decreases-up
decreases-up l = l.at
