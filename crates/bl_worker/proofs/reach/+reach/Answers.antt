use Rattle.std.proofs.Common.{arith}
use Rattle.bl_eval.proofs.Runs.{depth-at}
use Rattle.bl_worker.proofs.reach.+reach.Goals as goal

pub count_all-count_one-requires : goal.count_all-count_one-requires
count_all-count_one-requires t c =
    omega (arith, c.decreases, depth-at c.args.statements.now c.loop-statement.statement-index c.statement-item.result (omega arith) c.statement-item.is)
