use Rattle.std.proofs.Common.{◌≡◌, ◌∙◌, ap, subst}
use Rattle.bl_audit.proofs.Staying.{stays}
use Rattle.bl_record.proofs.Keeping.{loses-idle, loses-none, setup-of}
use Rattle.bl_record.proofs.journal.Journal.keep_up.Goals as goal
use Rattle.bl_setup.specs.Agreement.{Agree}
use Rattle.bl_setup.specs.Setup.{Setup}
use Rattle.bl_work.specs.Names.{AreNames}

pub lines-requires : goal.lines-requires
lines-requires g c sound =
    let t = c.requires.goes_on sound in
    stays t.0 c.args.hall.now c.args.self.now.bookmark t.2 t.1.bookmark

pub returns-in_err-lines-clause-any_moment : goal.returns-in_err-lines-clause-any_moment
returns-in_err-lines-clause-any_moment g c before kept grown =
    let same : c.setup-setup.result.now ≡ before.setup = setup-of c.args.hall.now c.core.result.now c.setup-setup.result.now c.setup-setup.ensures c.core.ensures.value ∙ grown.setup in
    let names : c.names.result.now ≡ before.setup.names = c.names.ensures.value ∙ ap (λ (s : Setup). s.names) same in
    loses-idle g.D.Device.now g.D.Device.past c.a_crash_loses_nothing_that_was_kept.ensures before (subst Agree same c.names.ensures.agree) (subst AreNames names c.scheme-scheme.ensures.names)
    c.args.self.now.bookmark c.args.self.now.log.device kept

pub returns-in-Ok-clause-any_moment : goal.returns-in-Ok-clause-any_moment
returns-in-Ok-clause-any_moment g c before kept grown =
    let same : c.setup-setup.result.now ≡ before.setup = setup-of c.args.hall.now c.core.result.now c.setup-setup.result.now c.setup-setup.ensures c.core.ensures.value ∙ grown.setup in
    let names : c.names.result.now ≡ before.setup.names = c.names.ensures.value ∙ ap (λ (s : Setup). s.names) same in
    loses-none g.D.Device.now g.D.Device.past c.a_crash_loses_nothing_that_was_kept.ensures before (subst Agree same c.names.ensures.agree) (subst AreNames names c.scheme-scheme.ensures.names)
    c.args.self.now.bookmark c.args.self.now.log.device c.write.new.self.log.device kept c.write.ensures.any_moment

pub returns-in-Err-clause-any_moment : goal.returns-in-Err-clause-any_moment
returns-in-Err-clause-any_moment g c before kept grown =
    let same : c.setup-setup.result.now ≡ before.setup = setup-of c.args.hall.now c.core.result.now c.setup-setup.result.now c.setup-setup.ensures c.core.ensures.value ∙ grown.setup in
    let names : c.names.result.now ≡ before.setup.names = c.names.ensures.value ∙ ap (λ (s : Setup). s.names) same in
    loses-none g.D.Device.now g.D.Device.past c.a_crash_loses_nothing_that_was_kept.ensures before (subst Agree same c.names.ensures.agree) (subst AreNames names c.scheme-scheme.ensures.names)
    c.args.self.now.bookmark c.args.self.now.log.device c.write.new.self.log.device kept c.write.ensures.any_moment

pub returns-in-Ok-clause-kept : goal.returns-in-Ok-clause-kept
returns-in-Ok-clause-kept g c =
    let t = c.requires.goes_on c.in_ok-lines.ensures.fine in
    c.in-Ok.ensures.kept t.0 c.args.hall.now t.1 t.2 c.in_ok-lines.ensures.lines
