use Rattle.bl_order.proofs.PlaceLaws.{rules-make}
use Rattle.bl_order.proofs.laws.rules_make_the_policy.Goals as goal

pub returns : goal.returns
returns c = rules-make
