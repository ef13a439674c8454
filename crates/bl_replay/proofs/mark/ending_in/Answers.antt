use Rattle.std.proofs.Common.{rules}
use Rattle.bl_replay.proofs.mark.ending_in.Goals as goal

pub returns-in-Loses : goal.returns-in-Loses
returns-in-Loses c = search rules
