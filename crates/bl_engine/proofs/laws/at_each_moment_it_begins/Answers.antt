use Rattle.bl_engine.proofs.Endings.{so_far}
use Rattle.bl_engine.proofs.laws.at_each_moment_it_begins.Goals as goal

pub returns : goal.returns
returns c = so_far
