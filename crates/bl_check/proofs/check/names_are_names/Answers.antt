use Rattle.bl_work.proofs.WhenFaults.{when_names}
use Rattle.bl_check.proofs.check.names_are_names.Goals as goal

pub returns : goal.returns
returns c = when_names
