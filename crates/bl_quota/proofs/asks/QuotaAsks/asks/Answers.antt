use Rattle.std.proofs.Common.{refl, []}
use Rattle.bl_quota.proofs.asks.QuotaAsks.asks.Goals as goal

pub returns-clause-was : goal.returns-clause-was
returns-clause-was c was = record {
  before = c.args.core.now;
  reached = c.policy-policy.ensures.reached;
  was = c.asks.ensures.quota was;
  on = record { events = []; steps = tt; leads = refl };
}
