use Rattle.std.proofs.Common.{[], ◌+◌, ◌∷◌, ◌++◌, length, ap, ◌∙◌, arith}
use Rattle.std.specs.Prelude.{Some, slice_set}
use Rattle.bl_order.specs.Machine.{State, Admits}
use Rattle.bl_hall.specs.declared.hall.Hall.TheInside.{Inside}
use Rattle.bl_hall.specs.declared.event.Event.TheVariants as kept_as
use Rattle.bl_hall.specs.Linked.{tally_at}
use Rattle.bl_hall.proofs.Events.{line-few, line-kept, line-place, line-room}
use Rattle.bl_hall.proofs.Keeping.{Next, continues, core-is, event-room, view-next}
use Rattle.bl_hall.proofs.hall.Hall.readable_line.Goals as goal

pub link_line-requires-clause-room : goal.link_line-requires-clause-room
link_line-requires-clause-room c =
    omega (arith, line-room c.self.inside c.self.invariant c.args.session c.args.ordinal c.args.work c.in-Ok.ensures.cause c.the_order_has_room.ensures.order, c.self.inside.links.ok.0)

pub link_line-requires-clause-few : goal.link_line-requires-clause-few
link_line-requires-clause-few c =
    line-few c.self.inside c.self.invariant c.args.session c.args.ordinal c.args.work c.in-Ok.ensures.cause c.the_order_has_room.ensures.order

pub link_line-requires-clause-place : goal.link_line-requires-clause-place
link_line-requires-clause-place c =
    omega (arith, c.in-Ok.ensures.ok.0, line-place c.self.inside c.self.invariant c.args.session c.args.ordinal c.args.work c.in-Ok.ensures.cause c.the_order_has_room.ensures.order)

pub push_reserved-requires : goal.push_reserved-requires
push_reserved-requires c =
    omega (arith, event-room c.self.inside c.self.invariant (Admits c.args.session c.args.ordinal c.args.work) c.in-Ok.ensures.cause c.the_order_has_room.ensures.order, c.self.inside.events.ok.0)

pub invariant_of-self : goal.invariant_of-self
invariant_of-self c =
    let d : Inside = record { alloc = c.self.inside.alloc; core = c.readable_line.new.self; events = c.push_reserved.new.self; links = c.link_line.new.links; tallies = c.link_line.new.tallies } in
    let next : Next c.self.inside d (Admits c.args.session c.args.ordinal c.args.work) = record {
      core = c.in-Ok.ensures.ok.1;
      events = c.push_reserved.ensures.items ∙ ap (λ i. c.self.inside.events.items ++ kept_as.Line i c.args.ordinal ∷ []) c.number-session.ensures;
      events_room = c.push_reserved.ensures.capacity;
      links_room = c.link_line.ensures.links_room;
      tallies_room = c.link_line.ensures.tallies_room;
    } in
    line-kept c.self.inside c.self.invariant c.args.session c.args.ordinal c.args.work c.in-Ok.ensures.cause d next c.link_line.ensures.links
    (c.link_line.ensures.tallies
    ∙ ap (λ m. slice_set c.self.inside.tallies.items c.args.session (record { awaited = (tally_at c.self.inside.tallies.items c.args.session).awaited + 1; line = Some m })) c.in-Ok.ensures.ok.0)

pub returns-in-Ok-clause-ok : goal.returns-in-Ok-clause-ok
returns-in-Ok-clause-ok c =
    let d : Inside = record { alloc = c.self.inside.alloc; core = c.readable_line.new.self; events = c.push_reserved.new.self; links = c.link_line.new.links; tallies = c.link_line.new.tallies } in
    let next : Next c.self.inside d (Admits c.args.session c.args.ordinal c.args.work) = record {
      core = c.in-Ok.ensures.ok.1;
      events = c.push_reserved.ensures.items ∙ ap (λ i. c.self.inside.events.items ++ kept_as.Line i c.args.ordinal ∷ []) c.number-session.ensures;
      events_room = c.push_reserved.ensures.capacity;
      links_room = c.link_line.ensures.links_room;
      tallies_room = c.link_line.ensures.tallies_room;
    } in (
      c.in-Ok.ensures.ok.0 ∙ ap (λ (y : State). length y.order) (core-is c.self.inside c.self.invariant c.args.self.now c.self.view_is),
      view-next c.self.inside d (Admits c.args.session c.args.ordinal c.args.work) c.self.invariant next c.args.self.now c.self.view_is,
    )

pub returns-in-Ok-clause-continues : goal.returns-in-Ok-clause-continues
returns-in-Ok-clause-continues c =
    let d : Inside = record { alloc = c.self.inside.alloc; core = c.readable_line.new.self; events = c.push_reserved.new.self; links = c.link_line.new.links; tallies = c.link_line.new.tallies } in
    let next : Next c.self.inside d (Admits c.args.session c.args.ordinal c.args.work) = record {
      core = c.in-Ok.ensures.ok.1;
      events = c.push_reserved.ensures.items ∙ ap (λ i. c.self.inside.events.items ++ kept_as.Line i c.args.ordinal ∷ []) c.number-session.ensures;
      events_room = c.push_reserved.ensures.capacity;
      links_room = c.link_line.ensures.links_room;
      tallies_room = c.link_line.ensures.tallies_room;
    } in
    continues c.self.inside d (Admits c.args.session c.args.ordinal c.args.work) c.self.invariant c.in-Ok.ensures.cause next c.args.self.now c.self.view_is
