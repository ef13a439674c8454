use Rattle.std.proofs.Common.{arith}
use Rattle.bl_queue_tests.proofs.Claims.{two-claims}
use Rattle.bl_queue_tests.proofs.many.enter_both.Goals as goal

pub enter-requires-clause-claims : goal.enter-requires-clause-claims
enter-requires-clause-claims c = two-claims _ _ _ (omega arith) (omega arith) (λ e. omega (arith, e))
