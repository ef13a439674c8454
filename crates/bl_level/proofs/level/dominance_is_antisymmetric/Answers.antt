use Rattle.bl_level.proofs.Dominance.{dominance-antisymmetric}
use Rattle.bl_level.proofs.level.dominance_is_antisymmetric.Goals as goal

pub returns : goal.returns
returns c = dominance-antisymmetric
