use Rattle.std.proofs.Common.{arith}
use Rattle.std.proofs.lemmas.Grind.{common_steps}
use Rattle.bl_hall.proofs.link.count_end.Goals as goal

pub returns-clause-tallies : goal.returns-clause-tallies
returns-clause-tallies c = grind (arith, common_steps)
