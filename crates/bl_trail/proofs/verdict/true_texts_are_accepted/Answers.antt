use Rattle.bl_trail.proofs.TrueTexts.{accepts}
use Rattle.bl_trail.proofs.verdict.true_texts_are_accepted.Goals as goal

pub returns : goal.returns
returns c = accepts c.one_verdict.ensures
