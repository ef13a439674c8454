use Rattle.std.proofs.Common.{subst, sym}
use Rattle.bl_order.specs.Machine.{State, MayStart}
use Rattle.bl_core.proofs.Queueing.{may-queued, queue-may}
use Rattle.bl_core.proofs.machine.Core.is_ready.Goals as goal

pub returns : goal.returns
returns c = (
  λ h. subst (λ (x : State). MayStart x c.args.n) c.self.view_is (may-queued c.self.inside c.self.invariant c.args.n (c.is_ready.ensures.0 h)),
  λ may. c.is_ready.ensures.1 (queue-may c.self.inside c.self.invariant c.args.n (subst (λ (x : State). MayStart x c.args.n) (sym c.self.view_is) may)),
)
