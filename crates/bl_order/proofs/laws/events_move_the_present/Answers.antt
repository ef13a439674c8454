use Rattle.bl_order.proofs.Present.{moves_on-reached}
use Rattle.bl_order.proofs.laws.events_move_the_present.Goals as goal

pub returns : goal.returns
returns c = moves_on-reached
