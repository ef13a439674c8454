use Rattle.bl_work.specs.declared.asked.Line.TheVariants.{Work}
use Rattle.bl_write.proofs.LinesWritten.{line_written}
use Rattle.bl_write.proofs.canonical.canonical_works_read_again.Goals as goal

pub returns : goal.returns
returns c names work table readable =
    (line_written names c.canonical_reads_again.ensures c.canonical_is_shortest.ensures c.read_tokens_are_proper.ensures (Work work) table readable.0 readable.1).reads
