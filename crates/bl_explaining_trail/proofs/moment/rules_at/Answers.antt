use Rattle.std.proofs.Common.{subst, sym}
use Rattle.std.specs.Prelude.{IfOk}
use Rattle.bl_explaining_trail.specs.Moments.{AreRulesAt}
use Rattle.bl_explaining_trail.proofs.moment.rules_at.Goals as goal

pub returns-in-Some-clause-rules : goal.returns-in-Some-clause-rules
returns-in-Some-clause-rules c =
    subst (λ at. IfOk c.first_rules.result (λ rules. AreRulesAt c.args.setup.now c.args.trail.now at rules.items)) (sym c.in-Some.is)
    c.first_rules.ensures.rules

pub returns-in-None-clause-rules : goal.returns-in-None-clause-rules
returns-in-None-clause-rules c =
    subst (λ at. IfOk c.all_rules.result (λ rules. AreRulesAt c.args.setup.now c.args.trail.now at rules.items)) (sym c.in-None.is)
    c.all_rules.ensures.rules
