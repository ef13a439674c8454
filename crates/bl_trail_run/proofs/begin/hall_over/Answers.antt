use Rattle.std.proofs.Common.{rules}
use Rattle.bl_trail_run.proofs.begin.hall_over.Goals as goal

pub returns : goal.returns
returns c = search rules
