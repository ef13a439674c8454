use Rattle.bl_order.proofs.ReadLines.{subject_in_setup, work_in_setup}
use Rattle.bl_order.proofs.laws.read_lines_are_in_the_setup.Goals as goal

pub returns-clause-subject : goal.returns-clause-subject
returns-clause-subject c = subject_in_setup c.read_lines_are_known.ensures

pub returns-clause-work : goal.returns-clause-work
returns-clause-work c = work_in_setup c.read_lines_are_known.ensures
