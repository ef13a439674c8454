use Rattle.std.proofs.Common.{inl, inr, refl}
use Rattle.std.proofs.KnownBytes.{Keeps-refl}
use Rattle.std.proofs.lemmas.Result.{err_from_is_err_and}
use Rattle.bl_replaying.proofs.replay.tell_judged.Goals as goal

-- a growth was refused
pub returns-in_default-clause-failed : goal.returns-in_default-clause-failed
returns-in_default-clause-failed g c = inl (refl, Keeps-refl _)

pub returns-in_default-events_before_stop-clause-failed : goal.returns-in_default-events_before_stop-clause-failed
returns-in_default-events_before_stop-clause-failed g c = inl (refl, Keeps-refl _)

-- the verdict was not told whole
pub returns-in_err-status-clause-failed : goal.returns-in_err-status-clause-failed
returns-in_err-status-clause-failed g c =
    let p = err_from_is_err_and c.from_residual.result c.from_residual.ensures.1 in
    let cut = c.in_err-status.ensures.failed in
    rw (p.1, p.2) (inr (cut.0, cut.1, (c.in-Ok.verdict, c.in-Ok.ensures, cut.2)))

pub returns-clause-told : goal.returns-clause-told
returns-clause-told g c =
    let told = c.in_ok-status.ensures.told in
    record { verdict = c.in-Ok.verdict; judged = c.in-Ok.ensures; status_is = told.1; told = told.0 }
