use Rattle.bl_alone_tests.proofs.base.run_from.Goals as goal

pub alone_planned_on-status-requires-clause-plan : goal.alone_planned_on-status-requires-clause-plan
alone_planned_on-status-requires-clause-plan c = (c.requires.sound, c.requires.fresh)
