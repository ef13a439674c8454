use Rattle.bl_rounds.specs.Seats.{IsSame}
use Rattle.bl_host.proofs.attend.Attendant.look_at_desk.Given as goal

-- the same connections are there
abbrev pub invariant-loop : goal.invariant-loop
invariant-loop g l = IsSame l.initial.self.rounds l.self.rounds
