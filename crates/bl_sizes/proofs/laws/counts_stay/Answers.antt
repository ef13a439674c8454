use Rattle.bl_sizes.proofs.Counting.{counted-on}
use Rattle.bl_sizes.proofs.laws.counts_stay.Goals as goal

pub returns : goal.returns
returns c = counted-on c.lines_ask_scripts.ensures
