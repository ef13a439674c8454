use Rattle.bl_order.proofs.Reached.{reached-first, reached-next}
use Rattle.bl_order.proofs.laws.steps_lead_on.Goals as goal

pub returns : goal.returns
returns c = record { first = reached-first; next = reached-next }
