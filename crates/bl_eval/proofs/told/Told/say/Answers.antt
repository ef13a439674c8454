use Rattle.std.proofs.Common.{◌++◌, [], ◌∷◌, ap, ◌∙◌, refl}
use Rattle.bl_work.specs.Few.{items_of}
use Rattle.bl_eval.proofs.Runs.{say-run}
use Rattle.bl_eval.proofs.told.Told.say.Goals as goal

pub returns : goal.returns
returns c grants = say-run grants c.args.self.now _ c.args.text.now (c.in_ok-push.ensures.ok ∙ ap (λ t. items_of c.args.self.now.shown ++ t ∷ []) c.in_ok-share.ensures) refl
