use Rattle.std.proofs.Common.{◌≡◌, ◌+◌, ◌≤◌, length}
use Rattle.bl_host.proofs.attend.Attendant.see_all_off.Given as goal

-- the pass that it was given is the same, and with each one that leaves it has one less
abbrev pub invariant-loop : goal.invariant-loop
invariant-loop g l = record {
  first : l.self.rounds.first ≡ l.initial.self.rounds.first;
  less : length l.self.rounds.seats + l.counter ≤ length l.initial.self.rounds.seats;
}
