use Rattle.bl_hall.proofs.Beginning.{no-ordinal}
use Rattle.bl_hall.proofs.walk.ordinal.Goals as goal

pub returns-in-None : goal.returns-in-None
returns-in-None c = no-ordinal c.args.core.now.order c.args.n c.in-None.ensures
