use Rattle.std.proofs.Common.{◌≡◌}
use Rattle.bl_walk.proofs.plain.Declared.access.Given as goal

-- no name was taken so far
abbrev pub invariant-loop-access : goal.invariant-loop-access
invariant-loop-access l = l.unread.bytes.now ≡ l.fn.unread.bytes.now
