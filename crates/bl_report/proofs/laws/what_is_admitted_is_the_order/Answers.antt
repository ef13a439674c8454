use Rattle.bl_report.proofs.Entering.{admitted-order}
use Rattle.bl_report.proofs.laws.what_is_admitted_is_the_order.Goals as goal

pub returns : goal.returns
returns c setup limit events = admitted-order setup limit events
