use Rattle.bl_name.proofs.Shortest.{shortest}
use Rattle.bl_name.proofs.laws.canonical_is_shortest.Goals as goal

pub returns : goal.returns
returns c = shortest
