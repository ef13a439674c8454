use Rattle.std.proofs.Common.{take}
use Rattle.std.specs.Prelude.{Contains}
use Rattle.bl_syntax.specs.RawRules.{raw_names}
use Rattle.bl_read.proofs.rules.has_name.Given as goal

-- the names so far are others
abbrev pub invariant-loop-other : goal.invariant-loop-other
invariant-loop-other l = Contains (raw_names (take l.other-index l.names)) l.name → ⊥
