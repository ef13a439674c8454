use Rattle.std.proofs.Common.{ℕ, ◌<◌}
use Rattle.bl_policy.specs.Properties.{IsPresent}
use Rattle.bl_trail.proofs.version.is_all_present.Given as goal

-- the documents so far are present
abbrev pub invariant-loop-position : goal.invariant-loop-position
invariant-loop-position l = (o : ℕ) → o < l.position → IsPresent l.setup.policy o
