use Rattle.bl_rounds.specs.Seats.{IsSame}
use Rattle.bl_host.proofs.attend.stir_found.Given as goal

-- the same connections are there
abbrev pub invariant-loop-event : goal.invariant-loop-event
invariant-loop-event g l = IsSame l.initial.rounds l.rounds
