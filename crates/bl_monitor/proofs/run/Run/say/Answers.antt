use Rattle.std.proofs.Common.{[], ◌∷◌, ◌++◌, ◌∙◌, ap, refl}
use Rattle.bl_monitor.proofs.Runs.{run_said}
use Rattle.bl_monitor.proofs.run.Run.say.Goals as goal

pub returns-clause-ran : goal.returns-clause-ran
returns-clause-ran c = λ contents start so_far stands.
    run_said start so_far contents c.args.self.now stands _ c.args.text.now (c.in_ok-push.ensures.items ∙ ap (λ t. c.args.self.now.shown.items ++ t ∷ []) c.in_ok-said.ensures) refl
