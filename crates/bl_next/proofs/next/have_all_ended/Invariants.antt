use Rattle.std.proofs.Common.{ℕ, ◌<◌}
use Rattle.std.specs.Prelude.{IsTrue}
use Rattle.bl_order.specs.Machine.{has_ended}
use Rattle.bl_next.proofs.next.have_all_ended.Given as goal

-- the places so far have ended
abbrev pub invariant-loop-n : goal.invariant-loop-n
invariant-loop-n l = (k : ℕ) → k < l.n → IsTrue (has_ended l.core k)
