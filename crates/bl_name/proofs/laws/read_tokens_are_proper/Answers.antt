use Rattle.bl_name.proofs.Readings.{read_proper}
use Rattle.bl_name.proofs.laws.read_tokens_are_proper.Goals as goal

pub returns : goal.returns
returns c = read_proper
