use Rattle.bl_log.proofs.Noting.{in_order}
use Rattle.bl_log.proofs.laws.a_log_has_its_lines_in_order.Goals as goal

pub returns : goal.returns
returns c = in_order
