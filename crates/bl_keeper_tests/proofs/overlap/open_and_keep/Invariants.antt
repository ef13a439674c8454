use Rattle.std.proofs.Common.{◌≡◌}
use Rattle.bl_keeper_tests.proofs.overlap.open_and_keep.Given as goal

-- the pass is of the same gate, with the same parts
abbrev pub invariant-loop : goal.invariant-loop
invariant-loop g l = (l.pass.gate ≡ l.initial.pass.gate) × (l.pass.parts ≡ l.initial.pass.parts)
