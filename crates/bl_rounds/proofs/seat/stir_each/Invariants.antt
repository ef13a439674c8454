use Rattle.std.proofs.Common.{◌≡◌, ◌≢◌, ◌<◌, ◌⊎◌, ℕ, get_or, vec_len}
use Rattle.bl_rounds.specs.Seats.{who}
use Rattle.bl_rounds.specs.declared.seat.Seat.{Seat}
use Rattle.bl_rounds.specs.declared.seat.Stage.TheVariants.{Goes, Sleeps}
use Rattle.bl_rounds.proofs.seat.stir_each.Given as goal

-- the same connections are there, and the first ones do not sleep
abbrev pub invariant-loop-i : goal.invariant-loop-i
invariant-loop-i l = record {
  awake : (k : ℕ) (d : Seat) → k < l.i → (get_or l.seats.items k d).stage ≢ Sleeps;
  stage : (j : ℕ) (d : Seat) → ((get_or l.seats.items j d).stage ≡ (get_or l.initial.seats.items j d).stage) ⊎ ((get_or l.seats.items j d).stage ≡ Goes);
  who_are : who l.seats.items ≡ who l.initial.seats.items;
  len : vec_len l.seats ≡ vec_len l.initial.seats;
}
