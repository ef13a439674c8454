use Rattle.bl_order.proofs.PlaceLaws.{rests_on_ended}
use Rattle.bl_order.proofs.laws.ended_places_rest_on_ended_places.Goals as goal

pub returns : goal.returns
returns c setup lost ended order closed others same n lt over = rests_on_ended setup lost others ended order closed same n lt over
