use Rattle.std.proofs.Common.{◌≡◌, ◌<◌, ℕ, false, get_or}
use Rattle.bl_rounds.specs.Seats.{leaves}
use Rattle.bl_rounds.specs.declared.seat.Seat.{Seat}
use Rattle.bl_rounds.proofs.seat.leaver.Given as goal

-- the first ones do not leave
abbrev pub invariant-loop-i : goal.invariant-loop-i
invariant-loop-i l = (k : ℕ) (d : Seat) → k < l.i → leaves (get_or l.seats k d).stage ≡ false
