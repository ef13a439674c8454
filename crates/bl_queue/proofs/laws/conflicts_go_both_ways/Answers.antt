use Rattle.bl_queue.proofs.Conflicts.{conflict-comm}
use Rattle.bl_queue.proofs.laws.conflicts_go_both_ways.Goals as goal

pub returns : goal.returns
returns c = conflict-comm
