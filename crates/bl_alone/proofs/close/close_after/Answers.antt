use Rattle.std.proofs.Common.{subst, Result}
use Rattle.bl_session.specs.Keeping.{IsHeld}
use Rattle.bl_session.specs.declared.keep.Stop.{Stop}
use Rattle.bl_trail_run.specs.Recording.{HasHeld, HasRecorded}
use Rattle.bl_alone.proofs.close.close_after.Goals as goal

pub close_up-requires : goal.close_up-requires
close_up-requires g c =
    let journal = c.args.recorder.journal in
    let now = g.D.Device.now in (
      c.requires.0,
      subst (λ (r : Result (Unit {0}) Stop). IsHeld (HasRecorded now g.D.Device.has_failed journal) (HasHeld now g.D.Device.has_failed journal) r c.requires.0) c.in-Ok.is c.requires.1,
      c.requires.2,
    )

pub close_stopped-requires : goal.close_stopped-requires
close_stopped-requires g c =
    let journal = c.args.recorder.journal in
    let now = g.D.Device.now in (
      c.requires.0,
      subst (λ (r : Result (Unit {0}) Stop). IsHeld (HasRecorded now g.D.Device.has_failed journal) (HasHeld now g.D.Device.has_failed journal) r c.requires.0) c.in-Err.is c.requires.1,
      c.requires.2,
    )

pub returns-in-Ok-clause-left : goal.returns-in-Ok-clause-left
returns-in-Ok-clause-left g c kept held front agree names =
    let journal = c.args.recorder.journal in
    let now = g.D.Device.now in
    c.close_up.ensures.left kept (subst (λ (r : Result (Unit {0}) Stop). IsHeld (HasRecorded now g.D.Device.has_failed journal) (HasHeld now g.D.Device.has_failed journal) r kept) c.in-Ok.is held)
    front agree names

pub returns-in-Err-clause-left : goal.returns-in-Err-clause-left
returns-in-Err-clause-left g c kept held front agree names =
    let journal = c.args.recorder.journal in
    let now = g.D.Device.now in
    c.close_stopped.ensures.left kept
    (subst (λ (r : Result (Unit {0}) Stop). IsHeld (HasRecorded now g.D.Device.has_failed journal) (HasHeld now g.D.Device.has_failed journal) r kept) c.in-Err.is held)
    front agree names
