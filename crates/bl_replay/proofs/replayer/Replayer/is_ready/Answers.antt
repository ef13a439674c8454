use Rattle.bl_replay.proofs.Queueing.{may-start, may-queued}
use Rattle.bl_replay.proofs.replayer.Replayer.is_ready.Goals as goal

pub returns : goal.returns
returns c x keeps = (
  λ h. may-start x c.args.self.now keeps c.claims_go_by_number.ensures.conflict c.args.n (c.is_ready.ensures.0 h),
  λ may. c.is_ready.ensures.1 (may-queued x c.args.self.now keeps c.claims_go_by_number.ensures.conflict c.args.n may),
)
