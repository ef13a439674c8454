use Rattle.std.proofs.Common.{◌≡◌, take}
use Rattle.bl_name.proofs.lexer.are_same.Given as goal

-- the bytes so far are the same
abbrev pub invariant-loop-i : goal.invariant-loop-i
invariant-loop-i l = take l.i l.these ≡ take l.i l.those
