use Rattle.std.proofs.Common.{arith}
use Rattle.std.proofs.lemmas.Grind.{common_steps}
use Rattle.bl_core.proofs.machine.Core.open.Goals as goal

pub returns-then-len-ge-MOST_SESSIONS-clause-cause : goal.returns-then-len-ge-MOST_SESSIONS-clause-cause
returns-then-len-ge-MOST_SESSIONS-clause-cause c = grind (arith, common_steps)

pub add_session-requires : goal.add_session-requires
add_session-requires c = grind (arith, common_steps)

pub returns-clause-cause : goal.returns-clause-cause
returns-clause-cause c = grind (arith, common_steps)
