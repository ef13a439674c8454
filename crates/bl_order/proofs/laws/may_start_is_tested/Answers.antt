use Rattle.bl_order.proofs.PlaceLaws.{may_start-is}
use Rattle.bl_order.proofs.laws.may_start_is_tested.Goals as goal

pub returns : goal.returns
returns c = may_start-is
