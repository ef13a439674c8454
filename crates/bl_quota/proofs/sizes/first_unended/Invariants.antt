use Rattle.std.proofs.Common.{◌≡◌, ◌≤◌, ◌<◌, ℕ, true}
use Rattle.bl_order.specs.Machine.{has_ended}
use Rattle.bl_quota.proofs.sizes.first_unended.Given as goal

-- the places so far have ended
abbrev pub invariant-loop-n : goal.invariant-loop-n
invariant-loop-n l = (n : ℕ) → l.from ≤ n → n < l.n → has_ended l.core n ≡ true
