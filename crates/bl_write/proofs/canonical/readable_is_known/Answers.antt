use Rattle.bl_write.proofs.KnownWorks.{readable_is_known}
use Rattle.bl_write.proofs.canonical.readable_is_known.Goals as goal

pub returns : goal.returns
returns c = readable_is_known c.canonical_reads_again.ensures c.canonical_is_shortest.ensures c.read_tokens_are_proper.ensures
