use Rattle.bl_queue_tests.proofs.Claims.{one-claim}
use Rattle.bl_queue_tests.proofs.starts.enter_rule.Goals as goal

pub enter-requires-clause-claims : goal.enter-requires-clause-claims
enter-requires-clause-claims c = one-claim _ _ c.requires.policy
