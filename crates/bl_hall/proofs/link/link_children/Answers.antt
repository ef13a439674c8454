use Rattle.std.proofs.Common.{arith}
use Rattle.std.proofs.lemmas.Grind.{common_steps}
use Rattle.bl_hall.proofs.link.link_children.Goals as goal

pub children-preserved : goal.children-preserved
children-preserved c = grind (arith, common_steps)
