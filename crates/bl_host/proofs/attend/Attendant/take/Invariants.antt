use Rattle.std.proofs.Common.{◌≡◌}
use Rattle.bl_host.proofs.attend.Attendant.take.Given as goal

-- the connections that it has are the same
abbrev pub invariant-loop : goal.invariant-loop
invariant-loop g l = l.self.rounds ≡ l.initial.self.rounds
