use Rattle.std.proofs.Common.{◌<◌, length, subst, sym}
use Rattle.bl_explain_text.specs.RuleReasons.{HoldsRuleGrounds}
use Rattle.bl_explaining.proofs.Held.{ids-of, rule-grounds-held}
use Rattle.bl_explaining.proofs.setting.Setting.rule_grounds.Goals as goal

pub of-requires-clause-known : goal.of-requires-clause-known
of-requires-clause-known c = subst (λ n. c.args.self.now.subject < n) c.requires.setting.moment.fits.subjects c.requires.setting.known

pub of-requires-clause-there : goal.of-requires-clause-there
of-requires-clause-there c =
    let t = c.args.self.now in
    ids-of t.moment.setup.now.names t.moment.policy.now c.requires.setting.moment.fits c.args.rule.now c.requires.there

pub returns-clause-held : goal.returns-clause-held
returns-clause-held c =
    let t = c.args.self.now in
    let rule = c.args.rule.now in
    subst (λ g. HoldsRuleGrounds t.moment.setup.now.names.scheme g rule) (sym c.of.ensures)
    (rule-grounds-held t.moment.setup.now.names t.moment.policy.now c.requires.setting.moment.fits t.subject rule c.requires.setting.known
    c.requires.asked)
