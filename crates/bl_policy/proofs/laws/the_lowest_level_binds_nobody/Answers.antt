use Rattle.std.proofs.Common.{inr}
use Rattle.bl_policy.specs.Policy.{level_of}
use Rattle.bl_policy.proofs.Properties.{carries-lowest}
use Rattle.bl_policy.proofs.laws.the_lowest_level_binds_nobody.Goals as goal

pub returns : goal.returns
returns c = λ p s o m. inr (carries-lowest (level_of p o) m)
