use Rattle.std.proofs.Common.{◌∙◌, ap, inr, subst, sym}
use Rattle.std.proofs.KnownBytes.{Keeps-refl}
use Rattle.bl_disk.specs.File.{seen}
use Rattle.bl_recover.specs.Recoveries.{HasEnded}
use Rattle.bl_status.specs.Named.{fault_at}
use Rattle.bl_recover.proofs.Recoveries.{ends, has_ended}
use Rattle.bl_recover.proofs.recover.recover_found.Goals as goal

-- the trail is closed
pub returns-in-Ok-clause-ended : goal.returns-in-Ok-clause-ended
returns-in-Ok-clause-ended g c =
    let now = g.D.Device.now in
    let end = c.tell_closed-end.result.0 in
    subst (λ device. HasEnded c.args.setup.now (seen (now c.args.found.device)) c.args.found.part end (now device)) (sym c.end-device.ensures)
    (has_ended c.args.setup.now _ c.args.found.part _ c.in-Ok.field-0.events c.in-Ok.field-0.cut end c.in-Ok.ensures.closed c.tell_closed-end.ensures.closed)

pub returns-in-Ok-clause-range : goal.returns-in-Ok-clause-range
returns-in-Ok-clause-range g c = ends c.in-Ok.field-0.events c.in-Ok.field-0.cut _ _ c.tell_closed-end.ensures.closed c.tell_closed-end.ensures.status

-- it was refused
pub returns-in-Err-clause-ended : goal.returns-in-Err-clause-ended
returns-in-Err-clause-ended g c =
    (c.in-Err.fault, c.at-fault.ensures ∙ ap (λ fault. fault_at fault c.args.found.part) c.of_recover.ensures, c.in-Err.ensures.fault)

pub returns-in-Err-clause-written : goal.returns-in-Err-clause-written
returns-in-Err-clause-written g c = Keeps-refl _

pub returns-in-Err-clause-range : goal.returns-in-Err-clause-range
returns-in-Err-clause-range g c = inr c.tell_named-status.ensures.status
