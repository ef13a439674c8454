use Rattle.std.proofs.Common.{sym, subst, Option}
use Rattle.std.specs.Prelude.{IfNone}
use Rattle.bl_policy.specs.declared.denial.Clause.{Clause}
use Rattle.bl_policy.specs.Policy.{CurrentBelowGreatest}
use Rattle.bl_policy.specs.RuleEffect.{Permits}
use Rattle.bl_policy.proofs.Rules.{below-makes}
use Rattle.bl_policy.proofs.policy.Policy.apply.Goals as goal

pub returns-clause-below : goal.returns-clause-below
returns-clause-below c =
    let permits = subst (λ (o : Option Clause). IfNone o (Permits c.args.self.now c.args.subject c.args.rule.now)) c.in_default.is c.failed_condition.ensures.permitted in
    subst CurrentBelowGreatest (sym c.change.ensures) (below-makes c.args.self.now c.args.subject c.args.rule.now permits c.failed_condition.ensures.below)
