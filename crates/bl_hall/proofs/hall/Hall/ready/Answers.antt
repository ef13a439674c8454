use Rattle.std.proofs.Common.{rules}
use Rattle.bl_hall.proofs.hall.Hall.ready.Goals as goal

pub returns-clause-none : goal.returns-clause-none
returns-clause-none c = search rules
