use Rattle.bl_command.proofs.Statuses.{of_words}
use Rattle.bl_command.proofs.run.refuse.Goals as goal

pub returns-clause-status : goal.returns-clause-status
returns-clause-status g c = of_words c.status_of-status.result c.status_of-status.ensures.range
