use Rattle.std.proofs.Common.{◌++◌, [], ◌∷◌, ap, ◌∙◌, refl}
use Rattle.bl_work.specs.Few.{items_of}
use Rattle.bl_eval.proofs.Runs.{show-run}
use Rattle.bl_eval.proofs.told.Told.show.Goals as goal

pub returns : goal.returns
returns c =
    show-run c.args.grants.now c.args.self.now _ c.args.doc c.requires.observes
    (c.in_ok-push.ensures.ok ∙ ap (λ t. items_of c.args.self.now.shown ++ t ∷ []) (c.in_ok-content.ensures ∙ c.content.ensures)) refl
