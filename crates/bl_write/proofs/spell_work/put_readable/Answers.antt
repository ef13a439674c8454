use Rattle.bl_write.proofs.spell_work.put_readable.Goals as goal

pub put_work-requires : goal.put_work-requires
put_work-requires g c = ((c.readable_is_known.ensures c.args.names.now c.args.work.now c.scheme.ensures.names).0 c.requires).there
