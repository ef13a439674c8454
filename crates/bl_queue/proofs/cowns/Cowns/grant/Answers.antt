use Rattle.std.proofs.Common.{arith}
use Rattle.std.proofs.lemmas.Grind.{common_steps}
use Rattle.bl_queue.proofs.cowns.Cowns.grant.Goals as goal

pub returns-else-waits-eq0 : goal.returns-else-waits-eq0
returns-else-waits-eq0 c = grind (arith, common_steps)
