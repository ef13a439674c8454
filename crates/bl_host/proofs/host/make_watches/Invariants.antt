use Rattle.std.proofs.Common.{◌≤◌, vec_len}
use Rattle.bl_host.proofs.host.make_watches.Given as goal

-- at most one for each thread so far
abbrev pub invariant-loop : goal.invariant-loop
invariant-loop g l = vec_len l.watches ≤ l.counter
