use Rattle.std.proofs.Common.{◌≡◌, ◌<◌, ◌-◌, List, length, refl, sym, ap, subst, ◌∙◌, arith}
use Rattle.std.specs.Prelude.{IsTrue}
use Rattle.bl_order.specs.Machine.{State, Ends, change, runs}
use Rattle.bl_hall.specs.declared.hall.Hall.TheInside.{Inside}
use Rattle.bl_hall.specs.declared.link.Tally.{Tally}
use Rattle.bl_hall.specs.Chronicle.{with_event}
use Rattle.bl_hall.specs.Linked.{link_at, one_less, tally_at}
use Rattle.bl_hall.proofs.Events.{end-few-now, end-kept, end-length, end-link, end-room, end-some, end-tally, has-link, many, more-places, runs-there}
use Rattle.bl_hall.proofs.Keeping.{Next, continues, core-is, event-room, view-next}
use Rattle.bl_hall.proofs.hall.Hall.finish_lent.Goals as goal

pub link_children-requires-clause-there : goal.link_children-requires-clause-there
link_children-requires-clause-there c =
    let running : IsTrue (runs c.self.inside.core c.entry-n.result) = subst (λ j. IsTrue (runs c.self.inside.core j)) (sym c.entry-n.ensures) (subst (λ (y : State). IsTrue (runs y c.args.done.entry)) (sym (core-is c.self.inside c.self.invariant c.args.self.now c.self.view_is)) c.requires.running) in
    has-link c.self.inside c.self.invariant c.entry-n.result (runs-there c.self.inside c.self.invariant c.entry-n.result running)

pub link_children-requires-clause-room : goal.link_children-requires-clause-room
link_children-requires-clause-room c =
    let running : IsTrue (runs c.self.inside.core c.entry-n.result) = subst (λ j. IsTrue (runs c.self.inside.core j)) (sym c.entry-n.ensures) (subst (λ (y : State). IsTrue (runs y c.args.done.entry)) (sym (core-is c.self.inside c.self.invariant c.args.self.now c.self.view_is)) c.requires.running) in
    let core : c.finish_lent.new.self ≡ change c.self.inside.core (Ends c.entry-n.result) = c.finish_lent.ensures ∙ ap (λ j. change c.self.inside.core (Ends j)) (sym c.entry-n.ensures) in
    let is : c.entries-after.result - c.entries-before.result ≡ many c.self.inside c.self.invariant c.entry-n.result running =
    more-places c.self.inside c.self.invariant c.entry-n.result running (c.entries-after.result - c.entries-before.result) c.entries-before.result c.entries-after.result
    c.entries-before.ensures.count (c.entries-after.ensures.count ∙ ap (λ (y : State). length y.order) core) refl
    in
    omega (arith, end-room c.self.inside c.self.invariant c.entry-n.result running c.the_order_has_room.ensures.order (c.entries-after.result - c.entries-before.result) is, c.self.inside.links.ok.0, c.self.invariant.links_room)

pub link_children-requires-clause-few : goal.link_children-requires-clause-few
link_children-requires-clause-few c =
    let running : IsTrue (runs c.self.inside.core c.entry-n.result) = subst (λ j. IsTrue (runs c.self.inside.core j)) (sym c.entry-n.ensures) (subst (λ (y : State). IsTrue (runs y c.args.done.entry)) (sym (core-is c.self.inside c.self.invariant c.args.self.now c.self.view_is)) c.requires.running) in
    let core : c.finish_lent.new.self ≡ change c.self.inside.core (Ends c.entry-n.result) = c.finish_lent.ensures ∙ ap (λ j. change c.self.inside.core (Ends j)) (sym c.entry-n.ensures) in
    let is : c.entries-after.result - c.entries-before.result ≡ many c.self.inside c.self.invariant c.entry-n.result running =
    more-places c.self.inside c.self.invariant c.entry-n.result running (c.entries-after.result - c.entries-before.result) c.entries-before.result c.entries-after.result
    c.entries-before.ensures.count (c.entries-after.ensures.count ∙ ap (λ (y : State). length y.order) core) refl
    in
    omega (arith, end-room c.self.inside c.self.invariant c.entry-n.result running c.the_order_has_room.ensures.order (c.entries-after.result - c.entries-before.result) is, c.self.inside.links.ok.0, c.self.invariant.limited)

pub count_children-requires : goal.count_children-requires
count_children-requires c =
    let running : IsTrue (runs c.self.inside.core c.entry-n.result) = subst (λ j. IsTrue (runs c.self.inside.core j)) (sym c.entry-n.ensures) (subst (λ (y : State). IsTrue (runs y c.args.done.entry)) (sym (core-is c.self.inside c.self.invariant c.args.self.now c.self.view_is)) c.requires.running) in
    let core : c.finish_lent.new.self ≡ change c.self.inside.core (Ends c.entry-n.result) = c.finish_lent.ensures ∙ ap (λ j. change c.self.inside.core (Ends j)) (sym c.entry-n.ensures) in
    let is : c.entries-after.result - c.entries-before.result ≡ many c.self.inside c.self.invariant c.entry-n.result running =
    more-places c.self.inside c.self.invariant c.entry-n.result running (c.entries-after.result - c.entries-before.result) c.entries-before.result c.entries-after.result
    c.entries-before.ensures.count (c.entries-after.ensures.count ∙ ap (λ (y : State). length y.order) core) refl
    in
    record {
      there = end-link c.self.inside c.self.invariant c.entry-n.result running c.link_children.new.links.items (c.entries-after.result - c.entries-before.result) is c.link_children.ensures.links;
      session = end-tally c.self.inside c.self.invariant c.entry-n.result running c.link_children.new.links.items (c.entries-after.result - c.entries-before.result) is c.link_children.ensures.links;
      few = end-few-now c.self.inside c.self.invariant c.entry-n.result running c.link_children.new.links.items (c.entries-after.result - c.entries-before.result) is c.link_children.ensures.links c.the_order_has_room.ensures.order;
    }

pub count_end-requires : goal.count_end-requires
count_end-requires c =
    let running : IsTrue (runs c.self.inside.core c.entry-n.result) = subst (λ j. IsTrue (runs c.self.inside.core j)) (sym c.entry-n.ensures) (subst (λ (y : State). IsTrue (runs y c.args.done.entry)) (sym (core-is c.self.inside c.self.invariant c.args.self.now c.self.view_is)) c.requires.running) in
    let core : c.finish_lent.new.self ≡ change c.self.inside.core (Ends c.entry-n.result) = c.finish_lent.ensures ∙ ap (λ j. change c.self.inside.core (Ends j)) (sym c.entry-n.ensures) in
    let is : c.entries-after.result - c.entries-before.result ≡ many c.self.inside c.self.invariant c.entry-n.result running =
    more-places c.self.inside c.self.invariant c.entry-n.result running (c.entries-after.result - c.entries-before.result) c.entries-before.result c.entries-after.result
    c.entries-before.ensures.count (c.entries-after.ensures.count ∙ ap (λ (y : State). length y.order) core) refl
    in
    record {
      there = end-link c.self.inside c.self.invariant c.entry-n.result running c.link_children.new.links.items (c.entries-after.result - c.entries-before.result) is c.link_children.ensures.links;
      session = subst (λ (ts : List Tally). (link_at c.link_children.new.links.items c.entry-n.result).session < length ts) (sym c.count_children.ensures.tallies) (end-length c.self.inside c.self.invariant c.entry-n.result running c.link_children.new.links.items (c.entries-after.result - c.entries-before.result) is c.link_children.ensures.links);
      some =
          subst (λ (ts : List Tally). 0 < (tally_at ts (link_at c.link_children.new.links.items c.entry-n.result).session).awaited) (sym c.count_children.ensures.tallies) (end-some c.self.inside c.self.invariant c.entry-n.result running c.link_children.new.links.items (c.entries-after.result - c.entries-before.result) is c.link_children.ensures.links);
    }

pub push_reserved-requires : goal.push_reserved-requires
push_reserved-requires c =
    let running : IsTrue (runs c.self.inside.core c.entry-n.result) = subst (λ j. IsTrue (runs c.self.inside.core j)) (sym c.entry-n.ensures) (subst (λ (y : State). IsTrue (runs y c.args.done.entry)) (sym (core-is c.self.inside c.self.invariant c.args.self.now c.self.view_is)) c.requires.running) in
    omega (arith, event-room c.self.inside c.self.invariant (Ends c.entry-n.result) running c.the_order_has_room.ensures.order, c.self.inside.events.ok.0)

pub invariant_of-self : goal.invariant_of-self
invariant_of-self c =
    let running : IsTrue (runs c.self.inside.core c.entry-n.result) = subst (λ j. IsTrue (runs c.self.inside.core j)) (sym c.entry-n.ensures) (subst (λ (y : State). IsTrue (runs y c.args.done.entry)) (sym (core-is c.self.inside c.self.invariant c.args.self.now c.self.view_is)) c.requires.running) in
    let core : c.finish_lent.new.self ≡ change c.self.inside.core (Ends c.entry-n.result) = c.finish_lent.ensures ∙ ap (λ j. change c.self.inside.core (Ends j)) (sym c.entry-n.ensures) in
    let is : c.entries-after.result - c.entries-before.result ≡ many c.self.inside c.self.invariant c.entry-n.result running =
    more-places c.self.inside c.self.invariant c.entry-n.result running (c.entries-after.result - c.entries-before.result) c.entries-before.result c.entries-after.result
    c.entries-before.ensures.count (c.entries-after.ensures.count ∙ ap (λ (y : State). length y.order) core) refl
    in
    let d : Inside = record { alloc = c.self.inside.alloc; core = c.finish_lent.new.self; events = c.push_reserved.new.self; links = c.link_children.new.links; tallies = c.count_end.new.tallies } in
    let next : Next c.self.inside d (Ends c.entry-n.result) = record {
      core = core;
      events = c.push_reserved.ensures.items;
      events_room = c.push_reserved.ensures.capacity;
      links_room = c.link_children.ensures.room;
      tallies_room = c.count_end.ensures.room ∙ c.count_children.ensures.room;
    } in
    end-kept c.self.inside c.self.invariant c.entry-n.result running c.link_children.new.links.items (c.entries-after.result - c.entries-before.result) is c.link_children.ensures.links d next refl
    (c.count_end.ensures.tallies ∙ ap (λ (ts : List Tally). one_less c.link_children.new.links.items ts c.entry-n.result) c.count_children.ensures.tallies)

pub returns-clause-change : goal.returns-clause-change
returns-clause-change c =
    let core : c.finish_lent.new.self ≡ change c.self.inside.core (Ends c.entry-n.result) = c.finish_lent.ensures ∙ ap (λ j. change c.self.inside.core (Ends j)) (sym c.entry-n.ensures) in
    let d : Inside = record { alloc = c.self.inside.alloc; core = c.finish_lent.new.self; events = c.push_reserved.new.self; links = c.link_children.new.links; tallies = c.count_end.new.tallies } in
    let next : Next c.self.inside d (Ends c.entry-n.result) = record {
      core = core;
      events = c.push_reserved.ensures.items;
      events_room = c.push_reserved.ensures.capacity;
      links_room = c.link_children.ensures.room;
      tallies_room = c.count_end.ensures.room ∙ c.count_children.ensures.room;
    } in
    view-next c.self.inside d (Ends c.entry-n.result) c.self.invariant next c.args.self.now c.self.view_is ∙ ap (λ j. with_event c.args.self.now (Ends j)) c.entry-n.ensures

pub returns-clause-continues : goal.returns-clause-continues
returns-clause-continues c =
    let running : IsTrue (runs c.self.inside.core c.entry-n.result) = subst (λ j. IsTrue (runs c.self.inside.core j)) (sym c.entry-n.ensures) (subst (λ (y : State). IsTrue (runs y c.args.done.entry)) (sym (core-is c.self.inside c.self.invariant c.args.self.now c.self.view_is)) c.requires.running) in
    let core : c.finish_lent.new.self ≡ change c.self.inside.core (Ends c.entry-n.result) = c.finish_lent.ensures ∙ ap (λ j. change c.self.inside.core (Ends j)) (sym c.entry-n.ensures) in
    let d : Inside = record { alloc = c.self.inside.alloc; core = c.finish_lent.new.self; events = c.push_reserved.new.self; links = c.link_children.new.links; tallies = c.count_end.new.tallies } in
    let next : Next c.self.inside d (Ends c.entry-n.result) = record {
      core = core;
      events = c.push_reserved.ensures.items;
      events_room = c.push_reserved.ensures.capacity;
      links_room = c.link_children.ensures.room;
      tallies_room = c.count_end.ensures.room ∙ c.count_children.ensures.room;
    } in
    continues c.self.inside d (Ends c.entry-n.result) c.self.invariant running next c.args.self.now c.self.view_is
