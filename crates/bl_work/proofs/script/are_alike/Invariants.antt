use Rattle.std.proofs.Common.{◌≡◌, take}
use Rattle.bl_work.proofs.script.are_alike.Given as goal

-- the behaviours so far are the same
abbrev pub invariant-loop-i : goal.invariant-loop-i
invariant-loop-i l = take l.i l.behaviours ≡ take l.i l.others
