use Rattle.bl_name.proofs.Again.{canonical_begins}
use Rattle.bl_name.proofs.laws.canonical_reads_again.Goals as goal

pub returns : goal.returns
returns c = canonical_begins
