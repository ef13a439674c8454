use Rattle.std.proofs.Common.{◌≡◌, ◌<◌, length}
use Rattle.bl_order.specs.Labels.{tag}
use Rattle.bl_session.specs.Pages.{ordinal_of}
use Rattle.bl_session.proofs.block.ordinal_of.Given as goal

abbrev pub invariant-up : goal.invariant-up
invariant-up l = (l.at < length l.core.order) × (ordinal_of (tag l.core.order l.n) ≡ ordinal_of (tag l.core.order l.at))

abbrev pub decreases-up : goal.decreases-up
decreases-up l = l.at
