use Rattle.std.proofs.Common.{take}
use Rattle.bl_level.specs.Table.{AreDistinct}
use Rattle.bl_syntax.specs.RawRules.{raw_names}
use Rattle.bl_read.proofs.rules.check_once.Given as goal

-- the names so far stand once
abbrev pub invariant-loop-i : goal.invariant-loop-i
invariant-loop-i l = AreDistinct (raw_names (take l.i l.categories))
