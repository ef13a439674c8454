use Rattle.std.proofs.Common.{rules}
use Rattle.bl_setup.proofs.setup.Setup.contents.Goals as goal

pub returns-clause-value : goal.returns-clause-value
returns-clause-value c = search rules
