-- Passes that threads were given, and what is left of the one that they came from.
use Rattle.std.specs.Prelude.{◌≡◌}
use Rattle.bl_gate.specs.Counts.{StartsWith}
use Rattle.bl_gate.specs.Gates.{GateId, PassView}

-- one part of the right to close this gate
pub record IsPart (of : GateId) (pass : PassView) : Type 0 where
  pub gate : pass.gate ≡ of
  pub one : pass.parts ≡ 1

-- the same pass later, with any parts: of the same gate, and it has seen all that it had seen
pub record Remains (before after : PassView) : Type 0 where
  pub gate : after.gate ≡ before.gate
  pub seen : StartsWith after.seen before.seen
