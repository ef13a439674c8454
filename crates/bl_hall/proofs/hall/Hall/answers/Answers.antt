use Rattle.std.proofs.Common.{rules}
use Rattle.bl_hall.proofs.hall.Hall.answers.Goals as goal

pub returns-in-Ok-clause-waits : goal.returns-in-Ok-clause-waits
returns-in-Ok-clause-waits c = search rules
