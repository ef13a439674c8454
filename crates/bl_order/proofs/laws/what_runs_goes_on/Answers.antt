use Rattle.bl_order.proofs.Running.{goes_on-reached}
use Rattle.bl_order.proofs.laws.what_runs_goes_on.Goals as goal

pub returns : goal.returns
returns c = goes_on-reached
