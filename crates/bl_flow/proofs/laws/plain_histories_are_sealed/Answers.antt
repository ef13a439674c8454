use Rattle.bl_flow.proofs.Plain.{plain-sealed}
use Rattle.bl_flow.proofs.laws.plain_histories_are_sealed.Goals as goal

pub returns : goal.returns
returns c level history possible plain =
    plain-sealed c.rules_make_the_policy.ensures history c.children_follow_their_parent.ensures c.rules_keep_rights.ensures.trusted
    plain level possible
