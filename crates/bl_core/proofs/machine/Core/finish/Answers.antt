use Rattle.std.proofs.Common.{rules}
use Rattle.bl_core.proofs.machine.Core.finish.Goals as goal

pub finish_lent-requires-clause-lent : goal.finish_lent-requires-clause-lent
finish_lent-requires-clause-lent c = search rules

pub returns-clause-foreign : goal.returns-clause-foreign
returns-clause-foreign c = search rules
