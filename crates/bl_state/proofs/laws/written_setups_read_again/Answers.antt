use Rattle.bl_setup.specs.Grammar.{most_setup_bytes}
use Rattle.bl_state.specs.Texts.{most_text_bytes}
use Rattle.bl_state.proofs.Short.{text-short}
use Rattle.bl_state.proofs.Whole.{reads-again}
use Rattle.bl_state.proofs.laws.written_setups_read_again.Goals as goal

pub returns-clause-file : goal.returns-clause-file
returns-clause-file c = reads-again c.canonical_reads_again.ensures c.read_tokens_are_proper.ensures c.matrix_is_a_set.ensures.none most_setup_bytes

pub returns-clause-always : goal.returns-clause-always
returns-clause-always c setup whole =
    reads-again c.canonical_reads_again.ensures c.read_tokens_are_proper.ensures c.matrix_is_a_set.ensures.none most_text_bytes setup whole
    (text-short setup whole)
