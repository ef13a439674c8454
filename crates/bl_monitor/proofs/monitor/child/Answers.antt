use Rattle.std.proofs.Common.{arith}
use Rattle.std.proofs.lemmas.Grind.{common_steps}
use Rattle.bl_monitor.proofs.monitor.child.Goals as goal

pub returns-in_ok-share-in-Some-clause-ok : goal.returns-in_ok-share-in-Some-clause-ok
returns-in_ok-share-in-Some-clause-ok c = grind (arith, common_steps)
