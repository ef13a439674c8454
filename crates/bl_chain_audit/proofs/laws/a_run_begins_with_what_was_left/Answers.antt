use Rattle.bl_chain_audit.proofs.Passing.{begins-with}
use Rattle.bl_chain_audit.proofs.laws.a_run_begins_with_what_was_left.Goals as goal

pub returns : goal.returns
returns c there noted run setup left whole before begun =
    begins-with there c.a_text_has_one_answer.ensures c.written_setups_read_again.ensures.always noted run setup left whole before begun
