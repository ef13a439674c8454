use Rattle.bl_hall.proofs.Trails.{state-next, trail-next, reached-now}
use Rattle.bl_hall.proofs.laws.events_lead_on.Goals as goal

pub returns-clause-change : goal.returns-clause-change
returns-clause-change c = state-next

pub returns-clause-trail : goal.returns-clause-trail
returns-clause-trail c = trail-next

pub returns-clause-reached : goal.returns-clause-reached
returns-clause-reached c = reached-now
