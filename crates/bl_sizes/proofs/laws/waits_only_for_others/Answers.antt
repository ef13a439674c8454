use Rattle.bl_sizes.proofs.Within.{waits-for}
use Rattle.bl_sizes.proofs.laws.waits_only_for_others.Goals as goal

pub returns : goal.returns
returns c = waits-for
