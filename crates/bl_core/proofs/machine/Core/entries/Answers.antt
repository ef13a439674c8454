use Rattle.std.proofs.Common.{◌≤◌, subst, arith}
use Rattle.bl_order.specs.Machine.{State}
use Rattle.bl_core.specs.View.{state_of}
use Rattle.bl_core.proofs.Views.{length-order}
use Rattle.bl_core.proofs.machine.Core.entries.Goals as goal

pub overflow_cast-result : goal.overflow_cast-result
overflow_cast-result c =
    omega (arith, c.the_order_has_room.ensures.order (state_of c.self.inside) c.self.invariant.reached, length-order c.self.inside, c.self.inside.places.ok.0)

pub returns-clause-limit : goal.returns-clause-limit
returns-clause-limit c =
    subst (λ (x : State). c.len.result ≤ x.limit) c.self.view_is
    (omega (arith, c.the_order_has_room.ensures.order (state_of c.self.inside) c.self.invariant.reached, length-order c.self.inside, c.self.inside.places.ok.0, c.len.ensures))
