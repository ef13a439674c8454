use Rattle.std.proofs.Common.{◌∙◌}
use Rattle.bl_hall.specs.Chronicle.{state_now}
use Rattle.bl_rebuild.proofs.Collecting.{all-lent}
use Rattle.bl_rebuild.proofs.Making.{reached}
use Rattle.bl_rebuild.proofs.rebuild.close_at.Goals as goal

pub returns-in-Ok-clause-running : goal.returns-in-Ok-clause-running
returns-in-Ok-clause-running c =
    let r = c.args.stepper.remade in
    c.in-Ok.ensures ∙ all-lent (state_now r.hall) r.slots.slots.items c.requires.lent (c.each_place_has_a_phase.ensures (state_now r.hall) (reached r c.requires))
