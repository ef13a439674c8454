use Rattle.bl_order.proofs.PlaceLaws.{answers-kept}
use Rattle.bl_order.proofs.laws.answers_keep_their_frame.Goals as goal

pub returns : goal.returns
returns c = answers-kept
