use Rattle.std.proofs.Common.{◌<◌, ℕ, get_or}
use Rattle.bl_rounds.specs.Seats.{IsSilent}
use Rattle.bl_rounds.specs.declared.seat.Seat.{Seat}
use Rattle.bl_rounds.proofs.seat.silent_one.Given as goal

-- the first ones were not silent for so long
abbrev pub invariant-loop-i : goal.invariant-loop-i
invariant-loop-i l = (k : ℕ) (d : Seat) → k < l.i → ¬ IsSilent l.now l.most (get_or l.seats k d)
