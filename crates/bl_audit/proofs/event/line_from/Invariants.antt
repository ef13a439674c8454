use Rattle.std.proofs.Common.{◌≡◌}
use Rattle.bl_audit.specs.Comes.{lines_from}
use Rattle.bl_audit.proofs.event.line_from.Given as goal

abbrev pub invariant-loop-n : goal.invariant-loop-n
invariant-loop-n l = lines_from l.core l.at ≡ lines_from l.core l.n
