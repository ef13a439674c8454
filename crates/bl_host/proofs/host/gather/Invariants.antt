use Rattle.std.proofs.Common.{◌≡◌}
use Rattle.bl_host.proofs.host.gather.Given as goal

-- what was given so far was gathered
abbrev pub invariant-loop-one : goal.invariant-loop-one
invariant-loop-one g l = l.ended.items ≡ l.yielded
