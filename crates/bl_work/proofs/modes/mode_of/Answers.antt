use Rattle.std.proofs.Common.{arith}
use Rattle.std.proofs.lemmas.Grind.{common_steps}
use Rattle.bl_work.proofs.modes.mode_of.Goals as goal

pub returns-in-a-clause-value : goal.returns-in-a-clause-value
returns-in-a-clause-value c = grind (arith, common_steps)

pub returns-in-a-clause-letter : goal.returns-in-a-clause-letter
returns-in-a-clause-letter c = grind (arith, common_steps)
