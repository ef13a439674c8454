use Rattle.bl_setup.proofs.SomeAnswer.{some_answer}
use Rattle.bl_setup.proofs.declared.a_text_has_some_answer.Goals as goal

pub returns : goal.returns
returns c = some_answer
