use Rattle.bl_order.proofs.HeadlineProof.{holds-reached}
use Rattle.bl_order.proofs.laws.each_state_holds.Goals as goal

pub returns : goal.returns
returns c = holds-reached
