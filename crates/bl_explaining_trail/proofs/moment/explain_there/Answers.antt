use Rattle.std.proofs.Common.{subst, sym}
use Rattle.bl_explaining_trail.specs.Moments.{AreRulesAt}
use Rattle.bl_explaining_trail.proofs.moment.explain_there.Goals as goal

pub explain_behind-requires-clause-stands : goal.explain_behind-requires-clause-stands
explain_behind-requires-clause-stands c =
    let at = c.args.asked.now.at in
    (c.args.trail.now, at, subst (AreRulesAt c.args.setup.now c.args.trail.now at) (sym c.deref.ensures.value) c.in-Ok.ensures.rules)

pub returns-in-Ok-explain_behind-clause-explained : goal.returns-in-Ok-explain_behind-clause-explained
returns-in-Ok-explain_behind-clause-explained c =
    let at = c.args.asked.now.at in
    c.in-Ok-explain_behind.ensures.explained c.args.trail.now at
    (subst (AreRulesAt c.args.setup.now c.args.trail.now at) (sym c.deref.ensures.value) c.in-Ok.ensures.rules)
