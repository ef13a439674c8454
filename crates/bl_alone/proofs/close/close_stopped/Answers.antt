use Rattle.std.proofs.Common.{◌∙◌, ap, sym, subst, Err, Some}
use Rattle.bl_session.specs.Keeping.{IsHeld}
use Rattle.bl_session.specs.declared.keep.Stop.{Stop}
use Rattle.bl_trail_run.specs.Recording.{HasHeld, HasRecorded, IsOfTrail, IsSafe}
use Rattle.bl_alone.proofs.Causes.{unkept_caused, unkept_of_trail}
use Rattle.bl_alone.proofs.close.close_stopped.Goals as goal

pub close_up-requires : goal.close_up-requires
close_up-requires g c =
    let journal = c.args.recorder.journal in
    let now = g.D.Device.now in (
      c.requires.0,
      subst (λ (s : Stop). IsHeld (HasRecorded now g.D.Device.has_failed journal) (HasHeld now g.D.Device.has_failed journal) (Err s) c.requires.0) c.in-Fault.is c.requires.1,
      c.requires.2,
    )

pub returns-in-Fault-clause-left : goal.returns-in-Fault-clause-left
returns-in-Fault-clause-left g c kept held front agree names =
    let journal = c.args.recorder.journal in
    let now = g.D.Device.now in
    c.close_up.ensures.left kept
    (subst (λ (s : Stop). IsHeld (HasRecorded now g.D.Device.has_failed journal) (HasHeld now g.D.Device.has_failed journal) (Err s) kept) c.in-Fault.is held)
    front agree names

pub returns-in-NotKept-clause-left : goal.returns-in-NotKept-clause-left
returns-in-NotKept-clause-left g c kept held front agree names =
    let journal = c.args.recorder.journal in
    let now = g.D.Device.now in
    let held' = subst (λ (s : Stop). IsHeld (HasRecorded now g.D.Device.has_failed journal) (HasHeld now g.D.Device.has_failed journal) (Err s) kept) c.in-NotKept.is held in (
      subst IsOfTrail (sym c.of_unkept-fault.ensures) (unkept_of_trail journal.fault),
      subst (λ d. IsSafe kept (now d)) (sym c.file_of.ensures) held'.0,
    )

pub returns-in-NotKept-clause-unkept : goal.returns-in-NotKept-clause-unkept
returns-in-NotKept-clause-unkept g c stopped = ap Some c.of_unkept-fault.ensures

pub returns-in-NotKept-clause-cause : goal.returns-in-NotKept-clause-cause
returns-in-NotKept-clause-cause g c told =
    let journal = c.args.recorder.journal in
    let now = g.D.Device.now in
    let has_failed = g.D.Device.has_failed in
    let held : HasHeld now has_failed journal c.requires.0 =
    subst (λ (s : Stop). IsHeld (HasRecorded now has_failed journal) (HasHeld now has_failed journal) (Err s) c.requires.0) c.in-NotKept.is c.requires.1 in
    ap has_failed c.file_of.ensures ∙ unkept_caused journal.fault _ held.1 (ap Some (sym c.of_unkept-fault.ensures) ∙ told)
