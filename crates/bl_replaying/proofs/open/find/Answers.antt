use Rattle.std.proofs.Common.{subst}
use Rattle.bl_trail.specs.Follow.{IsVerdict}
use Rattle.bl_replaying.proofs.open.find.Goals as goal

pub returns-in-Accepted : goal.returns-in-Accepted
returns-in-Accepted c = subst (IsVerdict c.args.setup.now c.args.trail.now) c.in-Accepted.is c.in_ok-events.ensures

pub find_rejected-requires : goal.find_rejected-requires
find_rejected-requires c = subst (IsVerdict c.args.setup.now c.args.trail.now) c.in-Rejected.is c.in_ok-events.ensures
