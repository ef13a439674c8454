use Rattle.std.proofs.Common.{subst}
use Rattle.bl_ruled.specs.Ruled.{AreRulesBefore}
use Rattle.bl_explaining_trail.proofs.Meaning.{first-meant}
use Rattle.bl_explaining_trail.proofs.moment.first_rules.Goals as goal

pub returns-in-Right-clause-rules : goal.returns-in-Right-clause-rules
returns-in-Right-clause-rules c =
    let setup = c.args.setup.now in
    let front = subst (AreRulesBefore setup c.args.trail.now c.args.events) c.in-Right.is c.in-Ok.ensures.rules in
    first-meant setup c.args.trail.now c.args.events c.in-Right.rules.items front.0 front.1
