use Rattle.bl_flow.proofs.Told.{tell-the-same}
use Rattle.bl_flow.proofs.laws.low_subjects_are_told_the_same.Goals as goal

pub returns : goal.returns
returns c = tell-the-same c.sessions_and_ordinals_bear_on_no_place.ensures c.low_places_stand_alone.ensures
