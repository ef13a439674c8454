use Rattle.std.proofs.Common.{ap, inr, subst, sym}
use Rattle.std.proofs.KnownBytes.{Keeps-refl}
use Rattle.bl_status.specs.declared.named.NamedFault.{NamedFault}
use Rattle.bl_recover.specs.Finishing.{IsNotClosed}
use Rattle.bl_recover.proofs.Recoveries.{ends, has_finished}
use Rattle.bl_recover.proofs.finish.finish_found.Goals as goal

-- the trail is closed
pub returns-in-Ok-clause-ended : goal.returns-in-Ok-clause-ended
returns-in-Ok-clause-ended g c =
    has_finished c.args.setup.now _ c.in-Ok.events c.tell_closed-end.result.0 c.in-Ok.ensures.closed c.tell_closed-end.ensures.closed

pub returns-in-Ok-clause-range : goal.returns-in-Ok-clause-range
returns-in-Ok-clause-range g c = ends c.in-Ok.events 0 _ _ c.tell_closed-end.ensures.closed c.tell_closed-end.ensures.status

-- it is not
pub returns-in-Err-clause-ended : goal.returns-in-Err-clause-ended
returns-in-Err-clause-ended g c =
    subst (IsNotClosed c.args.setup.now _) (sym (ap (λ (named : NamedFault). named.fault) c.at-fault.ensures)) c.in-Err.ensures.fault

pub returns-in-Err-clause-written : goal.returns-in-Err-clause-written
returns-in-Err-clause-written g c = Keeps-refl _

pub returns-in-Err-clause-range : goal.returns-in-Err-clause-range
returns-in-Err-clause-range g c = inr c.tell_named-status.ensures.status
