use Rattle.std.proofs.Common.{◌<◌, length, subst, sym}
use Rattle.bl_explain_text.specs.Reasons.{HoldsGrounds}
use Rattle.bl_explaining.proofs.Held.{grounds-held}
use Rattle.bl_explaining.proofs.setting.Setting.grounds.Goals as goal

pub of-requires-clause-known : goal.of-requires-clause-known
of-requires-clause-known c = subst (λ n. c.args.self.now.subject < n) c.requires.setting.moment.fits.subjects c.requires.setting.known

pub of-requires-clause-there : goal.of-requires-clause-there
of-requires-clause-there c = subst (λ n. c.args.access.now.doc < n) c.requires.setting.moment.fits.documents c.requires.there

pub returns-clause-held : goal.returns-clause-held
returns-clause-held c =
    let t = c.args.self.now in
    subst (HoldsGrounds t.moment.setup.now.names.scheme) (sym c.of.ensures)
    (grounds-held t.moment.setup.now.names t.moment.policy.now c.requires.setting.moment.fits t.subject t.carried c.args.access.now
    c.requires.setting.known c.requires.there c.requires.setting.held)
