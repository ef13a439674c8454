use Rattle.bl_chain_audit.proofs.Passing.{go-on}
use Rattle.bl_chain_audit.proofs.laws.audits_go_on.Goals as goal

pub returns : goal.returns
returns c there noted one end left stood whole before later =
    go-on there c.a_text_has_one_answer.ensures c.written_setups_read_again.ensures.always noted one end left stood whole before later
