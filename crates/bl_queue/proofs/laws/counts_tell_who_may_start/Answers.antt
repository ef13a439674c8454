use Rattle.bl_queue.proofs.Counts.{counts-kept}
use Rattle.bl_queue.proofs.laws.counts_tell_who_may_start.Goals as goal

pub returns : goal.returns
returns c = counts-kept
