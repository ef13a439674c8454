use Rattle.std.specs.Prelude.{map}
use Rattle.bl_syntax.specs.RawBodies.{raw_access}
use Rattle.bl_read.proofs.line.behaviour.Goals as goal

pub check_when-requires : goal.check_when-requires
check_when-requires c = c.names_are_names.ensures (raw_access c.args.first) (map raw_access c.args.more.now) c.args.body.now c.requires.proper
