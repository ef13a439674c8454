use Rattle.bl_order.proofs.PlaceLaws.{answered}
use Rattle.bl_order.proofs.laws.places_are_answered.Goals as goal

pub returns : goal.returns
returns c = answered
