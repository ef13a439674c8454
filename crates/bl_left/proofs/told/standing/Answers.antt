use Rattle.std.proofs.Common.{sym, ◌∙◌, ap, true≢false}
use Rattle.bl_setup.specs.Setup.{by_version}
use Rattle.bl_setup.specs.declared.version.Version.TheVariants.{Two}
use Rattle.bl_left.proofs.told.standing.Goals as goal

pub returns-then-not-have_all_ended : goal.returns-then-not-have_all_ended
returns-then-not-have_all_ended c x at all =
    true≢false (sym ((c.have_all_ended.ensures x at.0).1 all) ∙ c.if-not-have_all_ended.true)

pub returns : goal.returns
returns c x at =
    let ended = (c.have_all_ended.ensures x at.0).0 c.if-not-have_all_ended.false in
    (ended, c.in_ok-setup.ensures ∙ ap (by_version Two) (c.in_ok-tell_all.ensures x at ended))
