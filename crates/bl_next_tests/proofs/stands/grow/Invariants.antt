use Rattle.std.proofs.Common.{◌≡◌}
use Rattle.bl_next_tests.proofs.stands.grow.Given as goal

-- the setup that the run began with stays
abbrev pub invariant-loop : goal.invariant-loop
invariant-loop g l = l.core.setup ≡ l.fn.core.setup
