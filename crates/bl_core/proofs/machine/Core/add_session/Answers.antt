use Rattle.std.proofs.Common.{refl, sym, subst}
use Rattle.bl_order.specs.Machine.{State, Needs, Opens}
use Rattle.bl_core.proofs.Admitting.{kept-opened}
use Rattle.bl_core.proofs.machine.Core.add_session.Goals as goal

pub invariant_of-self : goal.invariant_of-self
invariant_of-self c =
    kept-opened c.self.inside (record c.self.inside { sessions = c.push_reserved.new.self }) c.args.subject
    (record {
      setup = refl;
      limit = refl;
      weight = refl;
      sessions = c.push_reserved.ensures.items;
      rooms = c.push_reserved.ensures.capacity;
      places = refl;
      queues = refl;
      policy = refl;
      shelves = refl;
    })
    c.self.invariant (subst (λ (x : State). Needs x (Opens c.args.subject)) (sym c.self.view_is) c.requires)
