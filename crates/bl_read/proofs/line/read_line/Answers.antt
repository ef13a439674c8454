use Rattle.bl_work.specs.declared.asked.Line.TheVariants.{Work}
use Rattle.bl_work.specs.declared.work.Work.TheVariants.{Behaviour}
use Rattle.bl_read.proofs.line.read_line.Goals as goal

pub returns-in-Ok-clause-only : goal.returns-in-Ok-clause-only
returns-in-Ok-clause-only c line asks =
    c.one_answer.ensures.asked c.args.names.now c.args.bytes.now (Work (Behaviour c.in-Ok.script)) line c.in-Ok.ensures asks
