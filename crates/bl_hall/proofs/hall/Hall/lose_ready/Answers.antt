use Rattle.std.proofs.Common.{◌<◌, ◌∷◌, ◌++◌, [], length, refl, sym, ap, subst, ◌∙◌, arith, inr}
use Rattle.bl_order.specs.Machine.{Loses, Needs}
use Rattle.bl_hall.specs.declared.event.Event.TheVariants as kept_as
use Rattle.bl_hall.specs.declared.hall.Hall.TheInside.{Inside}
use Rattle.bl_hall.specs.Linked.{link_at, one_less, tally_at}
use Rattle.bl_hall.proofs.Events.{has-link, has-tally, is-counted, lost-kept, lost-there, lost-unended}
use Rattle.bl_hall.proofs.Keeping.{Next, continues, event-room, view-next}
use Rattle.bl_hall.proofs.hall.Hall.lose_ready.Goals as goal

pub count_end-requires-clause-there : goal.count_end-requires-clause-there
count_end-requires-clause-there c =
    let needs : Needs c.self.inside.core (Loses c.args.starved) = inr (c.in_ok-lose_ready.ensures.ready.0 refl) in
    let there : c.args.starved < length c.self.inside.core.order = lost-there c.self.inside c.self.invariant c.args.starved needs in
    omega (arith, has-link c.self.inside c.self.invariant c.args.starved there, c.entry-n.ensures)

pub count_end-requires-clause-session : goal.count_end-requires-clause-session
count_end-requires-clause-session c =
    let needs : Needs c.self.inside.core (Loses c.args.starved) = inr (c.in_ok-lose_ready.ensures.ready.0 refl) in
    let there : c.args.starved < length c.self.inside.core.order = lost-there c.self.inside c.self.invariant c.args.starved needs in
    subst (λ j. (link_at c.self.inside.links.items j).session < length c.self.inside.tallies.items) (sym c.entry-n.ensures) (has-tally c.self.inside c.self.invariant c.args.starved there)

pub count_end-requires-clause-some : goal.count_end-requires-clause-some
count_end-requires-clause-some c =
    let needs : Needs c.self.inside.core (Loses c.args.starved) = inr (c.in_ok-lose_ready.ensures.ready.0 refl) in
    let there : c.args.starved < length c.self.inside.core.order = lost-there c.self.inside c.self.invariant c.args.starved needs in
    subst (λ j. 0 < (tally_at c.self.inside.tallies.items (link_at c.self.inside.links.items j).session).awaited) (sym c.entry-n.ensures)
    (is-counted c.self.inside c.self.invariant c.args.starved there (lost-unended c.self.inside c.self.invariant c.args.starved needs))

pub push_reserved-requires : goal.push_reserved-requires
push_reserved-requires c =
    let needs : Needs c.self.inside.core (Loses c.args.starved) = inr (c.in_ok-lose_ready.ensures.ready.0 refl) in
    omega (arith, event-room c.self.inside c.self.invariant (Loses c.args.starved) needs c.the_order_has_room.ensures.order, c.self.inside.events.ok.0)

pub invariant_of-self-2 : goal.invariant_of-self-2
invariant_of-self-2 c =
    let needs : Needs c.self.inside.core (Loses c.args.starved) = inr (c.in_ok-lose_ready.ensures.ready.0 refl) in
    let d : Inside = record { alloc = c.self.inside.alloc; core = c.lose_ready.new.self; events = c.push_reserved.new.self; links = c.self.inside.links; tallies = c.count_end.new.tallies } in
    let next : Next c.self.inside d (Loses c.args.starved) = record {
      core = c.in_ok-lose_ready.ensures.ok;
      events = c.push_reserved.ensures.items ∙ ap (λ j. c.self.inside.events.items ++ kept_as.Lost j ∷ []) c.entry-n.ensures;
      events_room = c.push_reserved.ensures.capacity;
      links_room = refl;
      tallies_room = c.count_end.ensures.room;
    } in
    lost-kept c.self.inside c.self.invariant d c.args.starved needs next refl (c.count_end.ensures.tallies ∙ ap (one_less c.self.inside.links.items c.self.inside.tallies.items) c.entry-n.ensures)

pub returns-clause-ok : goal.returns-clause-ok
returns-clause-ok c =
    let d : Inside = record { alloc = c.self.inside.alloc; core = c.lose_ready.new.self; events = c.push_reserved.new.self; links = c.self.inside.links; tallies = c.count_end.new.tallies } in
    let next : Next c.self.inside d (Loses c.args.starved) = record {
      core = c.in_ok-lose_ready.ensures.ok;
      events = c.push_reserved.ensures.items ∙ ap (λ j. c.self.inside.events.items ++ kept_as.Lost j ∷ []) c.entry-n.ensures;
      events_room = c.push_reserved.ensures.capacity;
      links_room = refl;
      tallies_room = c.count_end.ensures.room;
    } in
    view-next c.self.inside d (Loses c.args.starved) c.self.invariant next c.args.self.now c.self.view_is

pub returns-clause-continues : goal.returns-clause-continues
returns-clause-continues c =
    let needs : Needs c.self.inside.core (Loses c.args.starved) = inr (c.in_ok-lose_ready.ensures.ready.0 refl) in
    let d : Inside = record { alloc = c.self.inside.alloc; core = c.lose_ready.new.self; events = c.push_reserved.new.self; links = c.self.inside.links; tallies = c.count_end.new.tallies } in
    let next : Next c.self.inside d (Loses c.args.starved) = record {
      core = c.in_ok-lose_ready.ensures.ok;
      events = c.push_reserved.ensures.items ∙ ap (λ j. c.self.inside.events.items ++ kept_as.Lost j ∷ []) c.entry-n.ensures;
      events_room = c.push_reserved.ensures.capacity;
      links_room = refl;
      tallies_room = c.count_end.ensures.room;
    } in
    continues c.self.inside d (Loses c.args.starved) c.self.invariant needs next c.args.self.now c.self.view_is
