use Rattle.std.proofs.Common.{◌≡◌, ◌≤◌}
use Rattle.bl_keeper_tests.proofs.faults.write_each.Given as goal

-- the pass is of the same gate, and no write was refused twice
abbrev pub invariant-loop : goal.invariant-loop
invariant-loop g l = (l.pass.gate ≡ l.initial.pass.gate) × (l.refused ≤ l.counter)
