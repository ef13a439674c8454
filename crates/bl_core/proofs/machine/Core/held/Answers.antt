use Rattle.std.proofs.Common.{◌<◌, ◌^◌, ◌∙◌, refl, arith, List, length, ap, sym, subst}
use Rattle.std.specs.Prelude.{All, map}
use Rattle.bl_policy.specs.Properties.{IsSecure}
use Rattle.bl_order.specs.Machine.{Hold, State, held}
use Rattle.bl_order.specs.Now.{policy_now}
use Rattle.bl_core.specs.HeldItems.{item_of, items_from, AreBehaviours}
use Rattle.bl_place.specs.Queueing.{QueuesTell}
use Rattle.bl_core.proofs.Views.{length-order}
use Rattle.bl_core.specs.View.{state_of}
use Rattle.bl_place.specs.declared.place.Place.{Place}
use Rattle.bl_core.proofs.HeldLaws.{items-held, behaviours}
use Rattle.bl_core.proofs.machine.Core.held.Goals as goal

pub new-requires : goal.new-requires
new-requires c = record {
  behaviours = subst AreBehaviours (sym c.as_slice.ensures.value) (behaviours c.self.inside c.self.invariant c.tasks_are_of_scripts.ensures);
  queued = subst (λ (l : List Place). QueuesTell c.self.inside.queues.cowns c.self.inside.queues.limit l (length l) c.self.inside.queues) (sym c.as_slice.ensures.value)
      (record { cowns_are = refl; limit_is = refl; as_many = c.self.invariant.queued.as_many; each = c.self.invariant.queued.each });
  few = subst (λ (l : List Place). length l < 2 ^ 32) (sym c.as_slice.ensures.value)
      (omega (arith, c.the_order_has_room.ensures.order (state_of c.self.inside) c.self.invariant.reached, length-order c.self.inside));
}

pub returns-clause-items : goal.returns-clause-items
returns-clause-items c =
    c.new.ensures
    ∙ ap (λ (l : List Place). items_from l 0 (length l)) c.as_slice.ensures.value
    ∙ items-held c.self.inside c.self.invariant
    ∙ ap (λ (x : State). map item_of (held x)) c.self.view_is

pub returns-clause-secure : goal.returns-clause-secure
returns-clause-secure c =
    subst (λ (x : State). All (λ (h : Hold). IsSecure (policy_now x) h.subject h.doc h.mode) (held x)) c.self.view_is
    (c.headline.ensures.state (state_of c.self.inside) c.self.invariant.reached).secure
