use Rattle.bl_report.proofs.Rising.{items-rise}
use Rattle.bl_report.proofs.laws.items_rise_by_event.Goals as goal

pub returns : goal.returns
returns c setup limit events = items-rise setup limit events
