use Rattle.bl_setup.proofs.FirstLemmas.{one_answer}
use Rattle.bl_setup.proofs.declared.a_text_has_one_answer.Goals as goal

pub returns : goal.returns
returns c = one_answer
