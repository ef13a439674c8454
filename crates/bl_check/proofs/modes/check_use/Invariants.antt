use Rattle.std.proofs.Common.{◌≡◌, false, map, take}
use Rattle.std.specs.List.{list_any}
use Rattle.bl_syntax.specs.RawBodies.{raw_access}
use Rattle.bl_check.specs.Uses.{passes, declares_so}
use Rattle.bl_check.proofs.modes.check_use.Given as goal

-- no access so far declares it so
abbrev pub invariant-loop-access : goal.invariant-loop-access
invariant-loop-access l = list_any (declares_so (passes l.does) l.document) (map raw_access (take l.access-index l.more)) ≡ false
