use Rattle.bl_syntax.proofs.OneFault.{one_fault}
use Rattle.bl_syntax.proofs.read.one_fault.Goals as goal

pub returns : goal.returns
returns c = one_fault c.read_tokens_are_proper.ensures
