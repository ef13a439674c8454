use Rattle.bl_queue.proofs.Progress.{goes-on}
use Rattle.bl_queue.proofs.laws.something_goes_on.Goals as goal

pub returns : goal.returns
returns c = goes-on
