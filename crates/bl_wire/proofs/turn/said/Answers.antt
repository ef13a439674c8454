use Rattle.bl_wire.proofs.turn.said.Goals as goal

pub returns-in-Ok-clause-said : goal.returns-in-Ok-clause-said
returns-in-Ok-clause-said c = c.turn_of.ensures c.args.names.now c.args.text.now c.in-Ok.ensures.found
