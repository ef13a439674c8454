use Rattle.std.proofs.Common.{take, ap, ◌∙◌}
use Rattle.std.specs.Prelude.{unwrap_or}
use Rattle.std.proofs.lemmas.Result.{on_ok_weaker}
use Rattle.bl_work.specs.Content.{added}
use Rattle.bl_grant.proofs.Fronts.{has-tried, take-added}
use Rattle.bl_grant.proofs.held.Held.add.Goals as goal

pub invariant_of-self : goal.invariant_of-self
invariant_of-self c = has-tried c.add.result c.self.inside.front c.self.inside.content c.args.text.now c.self.invariant c.add.new.self c.add.ensures.ok c.add.ensures.err

pub returns-clause-ok : goal.returns-clause-ok
returns-clause-ok c = on_ok_weaker c.add.result (λ grown.
    ap (λ d. (unwrap_or c.self.inside.lent (take c.self.inside.front d), d)) grown
    ∙ ap (λ t. (unwrap_or c.self.inside.lent t, added c.self.inside.content c.args.text.now)) (take-added c.self.inside.front c.self.inside.content c.args.text.now c.self.invariant)
    ∙ ap (λ p. (p.0, added p.1 c.args.text.now)) c.self.view_is) c.add.ensures.ok
