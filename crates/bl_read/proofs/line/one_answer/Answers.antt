use Rattle.bl_read.proofs.OneAnswer.{one_line, one_line_fault, line_or_fault}
use Rattle.bl_read.proofs.line.one_answer.Goals as goal

pub returns-clause-asked : goal.returns-clause-asked
returns-clause-asked c = one_line c.one_reading.ensures

pub returns-clause-fault : goal.returns-clause-fault
returns-clause-fault c = one_line_fault c.read_tokens_are_proper.ensures c.one_reading.ensures c.one_fault.ensures

pub returns-clause-either : goal.returns-clause-either
returns-clause-either c = line_or_fault c.read_tokens_are_proper.ensures c.one_reading.ensures
