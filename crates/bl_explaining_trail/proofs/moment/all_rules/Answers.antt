use Rattle.std.proofs.Common.{subst}
use Rattle.bl_trail.specs.declared.verdict.Verdict.{Verdict}
use Rattle.bl_ruled.specs.Ruled.{AreRulesOf}
use Rattle.bl_explaining_trail.proofs.Meaning.{all-meant}
use Rattle.bl_explaining_trail.proofs.moment.all_rules.Goals as goal

pub returns-in-Accepted-clause-rules : goal.returns-in-Accepted-clause-rules
returns-in-Accepted-clause-rules c =
    let setup = c.args.setup.now in
    let rules = c.in-Ok.ruled.rules.items in
    let are = subst (λ (v : Verdict). AreRulesOf setup c.args.trail.now v rules) c.in-Accepted.is c.in-Ok.ensures.rules in
    all-meant setup c.args.trail.now c.in-Accepted.field-0 rules are.0 are.1
