use Rattle.bl_monitor.proofs.monitor.keep.Goals as goal

pub returns-clause-places : goal.returns-clause-places
returns-clause-places c = c.push_reserved.ensures.items
