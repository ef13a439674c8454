use Rattle.bl_read.proofs.SomeLine.{some_answer}
use Rattle.bl_read.proofs.line.some_answer.Goals as goal

pub returns : goal.returns
returns c = some_answer
