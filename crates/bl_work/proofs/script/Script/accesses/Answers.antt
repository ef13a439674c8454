use Rattle.std.proofs.Common.{rules}
use Rattle.bl_work.proofs.script.Script.accesses.Goals as goal

pub returns : goal.returns
returns c = search rules
