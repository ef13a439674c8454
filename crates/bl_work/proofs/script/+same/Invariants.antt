use Rattle.std.proofs.Common.{◌≡◌, take}
use Rattle.bl_work.specs.Body.{statements_of}
use Rattle.bl_work.proofs.script.+same.Given as goal

-- the statements so far are the same
abbrev pub invariant-Body::is_same-loop-i : goal.invariant-Body::is_same-loop-i
invariant-Body::is_same-loop-i l = statements_of (take l.i l.statements) ≡ statements_of (take l.i l.others)
