use Rattle.std.proofs.Common.{rules}
use Rattle.bl_gate.proofs.pass.Pass.parts.Goals as goal

pub returns : goal.returns
returns c = search rules
