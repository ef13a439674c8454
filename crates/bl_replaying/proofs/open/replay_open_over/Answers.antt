use Rattle.std.proofs.Common.{inl, inr, refl, subst}
use Rattle.std.proofs.KnownBytes.{Keeps-refl}
use Rattle.bl_status.specs.Runs.{HasTold}
use Rattle.bl_status.specs.declared.fault.ProgramFault.TheVariants.{NoMemory}
use Rattle.bl_wire.specs.Watch.{used}
use Rattle.bl_replaying.proofs.Opening.{told-status}
use Rattle.bl_replaying.proofs.open.replay_open_over.Goals as goal

-- a growth was refused
pub returns-in_default-clause-run : goal.returns-in_default-clause-run
returns-in_default-clause-run g c = inr (NoMemory, c.tell.ensures.told, inl (inl (refl, Keeps-refl _)))

-- what was found was told
pub returns-in-Ok-tell_finding-clause-run : goal.returns-in-Ok-tell_finding-clause-run
returns-in-Ok-tell_finding-clause-run g c = inl (c.in-Ok-tell_finding.ensures.told c.args.setup.now c.args.trail.now c.in-Ok.ensures)

pub returns-in-Ok-tell_finding-clause-status : goal.returns-in-Ok-tell_finding-clause-status
returns-in-Ok-tell_finding-clause-status g c =
    told-status _ _ _ _ _ (c.in-Ok-tell_finding.ensures.told c.args.setup.now c.args.trail.now c.in-Ok.ensures)

-- it was not told whole, and nothing was said before the fault
pub returns-in-Err-clause-run : goal.returns-in-Err-clause-run
returns-in-Err-clause-run g c =
    let E = g.E.Write.contents in
    let fault = c.in-Err.fault in
    let tell = c.tell-in-Err in
    inr (
      fault,
      subst (λ errors. HasTold fault tell.result (used E errors tell.new.errors)) c.in-Err.ensures.same tell.ensures.told,
      c.in-Err.ensures.failed c.args.setup.now c.args.trail.now c.in-Ok.ensures,
    )
