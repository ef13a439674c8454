use Rattle.bl_write.proofs.RulesWritten.{rule_reads_again}
use Rattle.bl_write.proofs.canonical.canonical_rule_reads_again.Goals as goal

pub returns : goal.returns
returns c = rule_reads_again c.canonical_reads_again.ensures c.read_tokens_are_proper.ensures
