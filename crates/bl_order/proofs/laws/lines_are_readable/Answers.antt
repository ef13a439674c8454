use Rattle.bl_order.proofs.ReadableLines.{asked-reached}
use Rattle.bl_order.proofs.laws.lines_are_readable.Goals as goal

pub returns : goal.returns
returns c = asked-reached
