use Rattle.std.proofs.Common.{rules}
use Rattle.bl_work.proofs.script.Script.weight.Goals as goal

pub returns-clause-number : goal.returns-clause-number
returns-clause-number c = search rules

pub returns-clause-script : goal.returns-clause-script
returns-clause-script c = search rules
