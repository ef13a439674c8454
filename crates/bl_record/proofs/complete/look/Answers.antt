use Rattle.bl_record.proofs.Causing.{caused-by}
use Rattle.bl_record.proofs.complete.look.Goals as goal

pub returns-in-Ok-clause-cause : goal.returns-in-Ok-clause-cause
returns-in-Ok-clause-cause g c = caused-by c.complete.result _ c.complete.ensures.cause
