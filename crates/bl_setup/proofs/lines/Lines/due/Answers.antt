use Rattle.std.proofs.Common.{rules}
use Rattle.bl_setup.proofs.lines.Lines.due.Goals as goal

pub returns-in-None-clause-taken : goal.returns-in-None-clause-taken
returns-in-None-clause-taken c = search rules
