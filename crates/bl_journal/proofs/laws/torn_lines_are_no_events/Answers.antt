use Rattle.bl_journal.proofs.Recovering.{torn-end}
use Rattle.bl_journal.proofs.laws.torn_lines_are_no_events.Goals as goal

pub returns : goal.returns
returns c = torn-end
