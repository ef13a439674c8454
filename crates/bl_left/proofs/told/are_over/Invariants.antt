use Rattle.std.proofs.Common.{ℕ, ◌<◌}
use Rattle.std.specs.Prelude.{IsTrue}
use Rattle.bl_order.specs.Machine.{is_over}
use Rattle.bl_replay.specs.Kept.{phase_in, place_in}
use Rattle.bl_left.proofs.told.are_over.Given as goal

-- the places so far have ended
abbrev pub invariant-loop-place : goal.invariant-loop-place
invariant-loop-place l = (k : ℕ) → k < l.place-index → IsTrue (is_over (phase_in (place_in l.places k)))
