use Rattle.std.proofs.Common.{◌≡◌, ◌<◌, ℕ, true, get_or}
use Rattle.bl_rounds.specs.Seats.{waits}
use Rattle.bl_rounds.specs.declared.seat.Seat.{Seat}
use Rattle.bl_rounds.proofs.seat.all_wait.Given as goal

-- the first ones wait
abbrev pub invariant-loop-i : goal.invariant-loop-i
invariant-loop-i l = (k : ℕ) (d : Seat) → k < l.i → waits (get_or l.seats k d).stage ≡ true
