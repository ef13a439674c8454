use Rattle.bl_explain.proofs.Running.{rules_make}
use Rattle.bl_explain.proofs.laws.rules_make_the_policy_of_a_run.Goals as goal

pub returns : goal.returns
returns c = rules_make c.events_move_the_present.ensures c.steps_lead_on.ensures.next c.steps_lead_on.ensures.first
