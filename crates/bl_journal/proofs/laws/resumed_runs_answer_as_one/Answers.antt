use Rattle.bl_journal.proofs.Resuming.{one-run}
use Rattle.bl_journal.proofs.laws.resumed_runs_answer_as_one.Goals as goal

pub returns : goal.returns
returns c =
    one-run c.steps_lead_on.ensures.next c.headline.ensures.state c.places_are_answered.ensures c.places_rest_on_the_past.ensures.entries
    c.each_place_has_a_phase.ensures c.what_is_at_hand_rests_on_ended_places.ensures.rests c.steps_lead_on.ensures.first c.headline.ensures.throughout
