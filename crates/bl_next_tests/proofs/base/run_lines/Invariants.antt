use Rattle.std.proofs.Common.{◌≡◌}
use Rattle.bl_next_tests.proofs.base.run_lines.Given as goal

-- the setup that the run began with stays
abbrev pub invariant-loop-subject : goal.invariant-loop-subject
invariant-loop-subject g l = l.core.setup ≡ l.fn.core.setup
