use Rattle.bl_explaining_event.proofs.event.explain_event.Goals as goal

pub returns-in-Err-clause-fault : goal.returns-in-Err-clause-fault
returns-in-Err-clause-fault c = c.unbegun.ensures c.args.setup.now c.args.trail.now c.args.asked.now.event c.in-Err.ensures.err
