use Rattle.bl_order.proofs.PlaceLaws.{policy-left}
use Rattle.bl_order.proofs.laws.behaviours_leave_the_policy.Goals as goal

pub returns : goal.returns
returns c = policy-left
