use Rattle.std.proofs.Common.{rules}
use Rattle.bl_work.proofs.modes.letter_of.Goals as goal

pub returns-in-Append : goal.returns-in-Append
returns-in-Append c = search rules
