use Rattle.bl_engine.proofs.Endings.{all_said}
use Rattle.bl_engine.proofs.laws.at_the_end_all_was_said.Goals as goal

pub returns : goal.returns
returns c = all_said
