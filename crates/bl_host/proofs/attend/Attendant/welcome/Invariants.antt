use Rattle.std.proofs.Common.{◌≡◌}
use Rattle.bl_host.proofs.attend.Attendant.welcome.Given as goal

-- the pass that it was given is the same
abbrev pub invariant-loop-accepted : goal.invariant-loop-accepted
invariant-loop-accepted g l = l.self.rounds.first ≡ l.initial.self.rounds.first
