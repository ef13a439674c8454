use Rattle.bl_order.proofs.PlaceLaws.{place-unnamed}
use Rattle.bl_order.proofs.laws.sessions_and_ordinals_bear_on_no_place.Goals as goal

pub returns : goal.returns
returns c = place-unnamed
