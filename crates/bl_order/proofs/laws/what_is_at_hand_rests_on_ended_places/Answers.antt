use Rattle.bl_order.proofs.AtHandLaws.{rests_on_ended_places, parents_have_ended}
use Rattle.bl_order.proofs.laws.what_is_at_hand_rests_on_ended_places.Goals as goal

pub returns : goal.returns
returns c = record { rests = rests_on_ended_places; parents = parents_have_ended }
