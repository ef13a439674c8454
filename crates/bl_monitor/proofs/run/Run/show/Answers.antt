use Rattle.std.proofs.Common.{[], ◌∷◌, ◌++◌, ◌∙◌, ap, refl}
use Rattle.bl_monitor.proofs.Runs.{run_shown, read_content}
use Rattle.bl_monitor.proofs.run.Run.show.Goals as goal

pub returns-clause-ran : goal.returns-clause-ran
returns-clause-ran c = λ start so_far stands.
    run_shown start so_far c.args.contents.now c.args.self.now stands _ c.args.doc c.requires
    (c.in_ok-push.ensures.items
    ∙ ap (λ t. c.args.self.now.shown.items ++ t ∷ [])
    (c.in_ok-content.ensures ∙ read_content c.args.contents.now c.args.doc c.position.result c.index-contents-position.result c.index-contents-position.is c.position.ensures c.requires)) refl
