use Rattle.bl_report.proofs.Changing.{content-kept, policy-kept}
use Rattle.bl_report.proofs.laws.nothing_else_changes.Goals as goal

pub returns-clause-policy : goal.returns-clause-policy
returns-clause-policy c until since x number e reached needs h =
    policy-kept until since x number e (c.headline.ensures.state x reached) (c.events_move_the_present.ensures x reached) needs h

pub returns-clause-content : goal.returns-clause-content
returns-clause-content c until since x number e doc reached needs h =
    content-kept until since x number doc e reached (c.events_move_the_present.ensures x reached) needs h
