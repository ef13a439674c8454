use Rattle.std.proofs.Common.{rules}
use Rattle.bl_session.proofs.entries.hall_over.Goals as goal

pub returns : goal.returns
returns c = search rules
