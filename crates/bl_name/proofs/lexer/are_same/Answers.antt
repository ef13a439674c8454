use Rattle.std.proofs.Common.{arith}
use Rattle.std.proofs.lemmas.List.{take_more_same}
use Rattle.bl_name.proofs.lexer.are_same.Goals as goal

pub loop-i-preserved : goal.loop-i-preserved
loop-i-preserved c = take_more_same c.args.these.now c.args.those.now c.loop-i.i 0 (omega arith) (omega arith) c.loop-i.invariant (omega arith)
