use Rattle.bl_order.proofs.Reached.{sound-reached}
use Rattle.bl_order.proofs.laws.each_place_has_a_phase.Goals as goal

pub returns : goal.returns
returns c x r = (sound-reached x r).as_many
