use Rattle.bl_hall.proofs.Standing.{in-order}
use Rattle.bl_hall.proofs.laws.replies_stand_in_order.Goals as goal

pub returns : goal.returns
returns c = λ x session after reached. in-order x reached session after
