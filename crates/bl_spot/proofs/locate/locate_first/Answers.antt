use Rattle.bl_spot.proofs.locate.locate_first.Goals as goal

pub returns-in-Ok : goal.returns-in-Ok
returns-in-Ok c = (c.in-Ok.setup, c.in-Ok.ensures.setup)
