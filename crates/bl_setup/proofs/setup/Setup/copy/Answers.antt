use Rattle.std.proofs.Common.{rules}
use Rattle.bl_setup.proofs.setup.Setup.copy.Goals as goal

pub of-requires : goal.of-requires
of-requires c = search rules
