use Rattle.std.proofs.Common.{◌<◌, ◌∷◌, ◌++◌, [], length, refl, sym, ap, subst, ◌∙◌, arith, inl}
use Rattle.std.specs.Prelude.{IsTrue}
use Rattle.bl_order.specs.Machine.{State, Loses, Needs, runs}
use Rattle.bl_hall.specs.declared.event.Event.TheVariants as kept_as
use Rattle.bl_hall.specs.declared.hall.Hall.TheInside.{Inside}
use Rattle.bl_hall.specs.Linked.{link_at, one_less, tally_at}
use Rattle.bl_hall.proofs.Events.{has-link, has-tally, is-counted, lost-kept, lost-there, lost-unended}
use Rattle.bl_hall.proofs.Keeping.{Next, continues, core-is, event-room, view-next}
use Rattle.bl_hall.proofs.hall.Hall.lose_running.Goals as goal

pub count_end-requires : goal.count_end-requires
count_end-requires c =
    let needs : Needs c.self.inside.core (Loses c.args.lent.entry) = inl (subst (λ (y : State). IsTrue (runs y c.args.lent.entry)) (sym (core-is c.self.inside c.self.invariant c.args.self.now c.self.view_is)) c.requires.running) in
    let there : c.args.lent.entry < length c.self.inside.core.order = lost-there c.self.inside c.self.invariant c.args.lent.entry needs in
    record {
      there = omega (arith, has-link c.self.inside c.self.invariant c.args.lent.entry there, c.entry-n.ensures);
      session = subst (λ j. (link_at c.self.inside.links.items j).session < length c.self.inside.tallies.items) (sym c.entry-n.ensures) (has-tally c.self.inside c.self.invariant c.args.lent.entry there);
      some =
          subst (λ j. 0 < (tally_at c.self.inside.tallies.items (link_at c.self.inside.links.items j).session).awaited) (sym c.entry-n.ensures)
          (is-counted c.self.inside c.self.invariant c.args.lent.entry there (lost-unended c.self.inside c.self.invariant c.args.lent.entry needs));
    }

pub push_reserved-requires : goal.push_reserved-requires
push_reserved-requires c =
    let needs : Needs c.self.inside.core (Loses c.args.lent.entry) = inl (subst (λ (y : State). IsTrue (runs y c.args.lent.entry)) (sym (core-is c.self.inside c.self.invariant c.args.self.now c.self.view_is)) c.requires.running) in
    omega (arith, event-room c.self.inside c.self.invariant (Loses c.args.lent.entry) needs c.the_order_has_room.ensures.order, c.self.inside.events.ok.0)

pub invariant_of-self : goal.invariant_of-self
invariant_of-self c =
    let needs : Needs c.self.inside.core (Loses c.args.lent.entry) = inl (subst (λ (y : State). IsTrue (runs y c.args.lent.entry)) (sym (core-is c.self.inside c.self.invariant c.args.self.now c.self.view_is)) c.requires.running) in
    let d : Inside = record { alloc = c.self.inside.alloc; core = c.lose_running.new.core; events = c.push_reserved.new.self; links = c.self.inside.links; tallies = c.count_end.new.tallies } in
    let next : Next c.self.inside d (Loses c.args.lent.entry) = record {
      core = c.lose_running.ensures;
      events = c.push_reserved.ensures.items ∙ ap (λ j. c.self.inside.events.items ++ kept_as.Lost j ∷ []) c.entry-n.ensures;
      events_room = c.push_reserved.ensures.capacity;
      links_room = refl;
      tallies_room = c.count_end.ensures.room;
    } in
    lost-kept c.self.inside c.self.invariant d c.args.lent.entry needs next refl (c.count_end.ensures.tallies ∙ ap (one_less c.self.inside.links.items c.self.inside.tallies.items) c.entry-n.ensures)

pub returns-clause-change : goal.returns-clause-change
returns-clause-change c =
    let d : Inside = record { alloc = c.self.inside.alloc; core = c.lose_running.new.core; events = c.push_reserved.new.self; links = c.self.inside.links; tallies = c.count_end.new.tallies } in
    let next : Next c.self.inside d (Loses c.args.lent.entry) = record {
      core = c.lose_running.ensures;
      events = c.push_reserved.ensures.items ∙ ap (λ j. c.self.inside.events.items ++ kept_as.Lost j ∷ []) c.entry-n.ensures;
      events_room = c.push_reserved.ensures.capacity;
      links_room = refl;
      tallies_room = c.count_end.ensures.room;
    } in
    view-next c.self.inside d (Loses c.args.lent.entry) c.self.invariant next c.args.self.now c.self.view_is

pub returns-clause-continues : goal.returns-clause-continues
returns-clause-continues c =
    let needs : Needs c.self.inside.core (Loses c.args.lent.entry) = inl (subst (λ (y : State). IsTrue (runs y c.args.lent.entry)) (sym (core-is c.self.inside c.self.invariant c.args.self.now c.self.view_is)) c.requires.running) in
    let d : Inside = record { alloc = c.self.inside.alloc; core = c.lose_running.new.core; events = c.push_reserved.new.self; links = c.self.inside.links; tallies = c.count_end.new.tallies } in
    let next : Next c.self.inside d (Loses c.args.lent.entry) = record {
      core = c.lose_running.ensures;
      events = c.push_reserved.ensures.items ∙ ap (λ j. c.self.inside.events.items ++ kept_as.Lost j ∷ []) c.entry-n.ensures;
      events_room = c.push_reserved.ensures.capacity;
      links_room = refl;
      tallies_room = c.count_end.ensures.room;
    } in
    continues c.self.inside d (Loses c.args.lent.entry) c.self.invariant needs next c.args.self.now c.self.view_is
