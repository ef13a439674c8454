use Rattle.bl_flow.proofs.Plain.{untrusted-sealed}
use Rattle.bl_flow.proofs.laws.untrusted_histories_are_sealed.Goals as goal

pub returns : goal.returns
returns c level history two untrusted =
    untrusted-sealed c.rules_make_the_policy.ensures history c.rules_keep_rights.ensures.trusted untrusted level two
