use Rattle.bl_rounds.specs.Seats.{IsSame}
use Rattle.bl_host.proofs.attend.Attendant.stir_desk.Given as goal

-- the same connections are there
abbrev pub invariant-loop-before : goal.invariant-loop-before
invariant-loop-before g l = IsSame l.initial.self.rounds l.self.rounds
