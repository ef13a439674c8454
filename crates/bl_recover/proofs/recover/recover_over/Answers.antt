use Rattle.bl_recover.proofs.recover.recover_over.Goals as goal

pub returns-clause-run : goal.returns-clause-run
returns-clause-run g c = c.go_on-ended.ensures.run c.args.trail.now c.find-found.ensures.part
