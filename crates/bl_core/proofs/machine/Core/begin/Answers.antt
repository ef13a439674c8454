use Rattle.std.proofs.Common.{rules}
use Rattle.bl_core.proofs.machine.Core.begin.Goals as goal

pub run-requires-clause-done : goal.run-requires-clause-done
run-requires-clause-done c = search rules
