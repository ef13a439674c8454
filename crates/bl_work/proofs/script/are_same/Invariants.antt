use Rattle.std.proofs.Common.{◌≡◌, take}
use Rattle.bl_work.proofs.script.are_same.Given as goal

-- the accesses so far are the same
abbrev pub invariant-loop-i : goal.invariant-loop-i
invariant-loop-i l = take l.i l.accesses ≡ take l.i l.others
