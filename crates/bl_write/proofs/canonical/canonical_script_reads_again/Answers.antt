use Rattle.bl_write.proofs.ReadAgain.{script_reads_again}
use Rattle.bl_write.proofs.canonical.canonical_script_reads_again.Goals as goal

pub returns : goal.returns
returns c = script_reads_again c.canonical_reads_again.ensures
