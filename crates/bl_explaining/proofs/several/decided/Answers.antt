use Rattle.std.proofs.Common.{◌<◌, length, subst}
use Rattle.bl_explaining.proofs.Held.{there-in}
use Rattle.bl_explaining.proofs.several.decided.Goals as goal

pub first_refused-requires-clause-known : goal.first_refused-requires-clause-known
first_refused-requires-clause-known c = subst (λ n. c.args.setting.now.subject < n) c.requires.setting.moment.fits.subjects c.requires.setting.known

pub first_refused-requires-clause-there : goal.first_refused-requires-clause-there
first_refused-requires-clause-there c =
    let m = c.args.setting.now.moment in
    there-in m.setup.now.names m.policy.now c.requires.setting.moment.fits c.args.accesses.now c.requires.there
