use Rattle.bl_level.proofs.Dominance.{dominates-sets}
use Rattle.bl_level.proofs.level.dominates_means_dominance.Goals as goal

pub returns : goal.returns
returns c = dominates-sets
