use Rattle.bl_order.proofs.PlaceLaws.{looks-back}
use Rattle.bl_order.proofs.laws.contents_look_back.Goals as goal

pub returns : goal.returns
returns c = looks-back
