use Rattle.bl_work.proofs.WhenFaults.{one_fault, faultless_no_fault}
use Rattle.bl_check.proofs.check.one_when_fault.Goals as goal

pub returns-clause-one : goal.returns-clause-one
returns-clause-one c = one_fault

pub returns-clause-none : goal.returns-clause-none
returns-clause-none c = faultless_no_fault
