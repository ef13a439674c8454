use Rattle.std.proofs.Common.{rules}
use Rattle.bl_work.proofs.script.Script.is_same.Goals as goal

pub returns-then-is_same : goal.returns-then-is_same
returns-then-is_same c = search rules
