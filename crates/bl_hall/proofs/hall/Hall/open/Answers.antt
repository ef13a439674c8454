use Rattle.std.proofs.Common.{[], ◌∷◌, ◌++◌, length, refl, ap, ◌∙◌, arith}
use Rattle.bl_order.specs.Machine.{State, Opens}
use Rattle.bl_hall.specs.declared.hall.Hall.TheInside.{Inside}
use Rattle.bl_hall.proofs.Events.{open-kept}
use Rattle.bl_hall.proofs.Keeping.{Next, continues, core-is, event-room, view-next}
use Rattle.bl_hall.proofs.hall.Hall.open.Goals as goal

pub push_reserved-requires-in-Ok : goal.push_reserved-requires-in-Ok
push_reserved-requires-in-Ok c =
    omega (arith, event-room c.self.inside c.self.invariant (Opens c.args.subject) c.in-Ok.ensures.cause c.the_order_has_room.ensures.order, c.self.inside.events.ok.0)

pub invariant_of-self : goal.invariant_of-self
invariant_of-self c =
    let d : Inside = record { alloc = c.self.inside.alloc; core = c.open.new.self; events = c.push_reserved-in-Ok.new.self; links = c.self.inside.links; tallies = c.push_reserved.new.self } in
    let next : Next c.self.inside d (Opens c.args.subject) = record {
      core = c.in-Ok.ensures.ok.1;
      events = c.push_reserved-in-Ok.ensures.items;
      events_room = c.push_reserved-in-Ok.ensures.capacity;
      links_room = refl;
      tallies_room = c.push_reserved.ensures.capacity;
    } in
    open-kept c.self.inside c.self.invariant d c.args.subject c.in-Ok.ensures.cause next refl
    (c.push_reserved.ensures.items ∙ ap (λ line. c.self.inside.tallies.items ++ record { awaited = 0; line = line } ∷ []) c.none.ensures)

pub returns-in-Ok-clause-ok : goal.returns-in-Ok-clause-ok
returns-in-Ok-clause-ok c =
    let d : Inside = record { alloc = c.self.inside.alloc; core = c.open.new.self; events = c.push_reserved-in-Ok.new.self; links = c.self.inside.links; tallies = c.push_reserved.new.self } in
    let next : Next c.self.inside d (Opens c.args.subject) = record {
      core = c.in-Ok.ensures.ok.1;
      events = c.push_reserved-in-Ok.ensures.items;
      events_room = c.push_reserved-in-Ok.ensures.capacity;
      links_room = refl;
      tallies_room = c.push_reserved.ensures.capacity;
    } in (
      c.in-Ok.ensures.ok.0 ∙ ap (λ (y : State). length y.sessions) (core-is c.self.inside c.self.invariant c.args.self.now c.self.view_is),
      view-next c.self.inside d (Opens c.args.subject) c.self.invariant next c.args.self.now c.self.view_is,
    )

pub returns-in-Ok-clause-continues : goal.returns-in-Ok-clause-continues
returns-in-Ok-clause-continues c =
    let d : Inside = record { alloc = c.self.inside.alloc; core = c.open.new.self; events = c.push_reserved-in-Ok.new.self; links = c.self.inside.links; tallies = c.push_reserved.new.self } in
    let next : Next c.self.inside d (Opens c.args.subject) = record {
      core = c.in-Ok.ensures.ok.1;
      events = c.push_reserved-in-Ok.ensures.items;
      events_room = c.push_reserved-in-Ok.ensures.capacity;
      links_room = refl;
      tallies_room = c.push_reserved.ensures.capacity;
    } in
    continues c.self.inside d (Opens c.args.subject) c.self.invariant c.in-Ok.ensures.cause next c.args.self.now c.self.view_is
