use Rattle.std.proofs.Common.{◌<◌, length, refl, sym, subst, arith, inr}
use Rattle.bl_order.specs.Machine.{State, Loses, MayStart, Needs}
use Rattle.bl_hall.specs.declared.hall.Hall.TheInside.{Inside}
use Rattle.bl_hall.proofs.Events.{has-link, has-tally, is-counted, lost-kept, lost-there, lost-unended}
use Rattle.bl_hall.proofs.Keeping.{Next, continues, core-is, event-room, view-next}
use Rattle.bl_hall.proofs.hall.Hall.lose_untried.Goals as goal

pub count_end-requires : goal.count_end-requires
count_end-requires c =
    let needs : Needs c.self.inside.core (Loses c.args.n) = inr (subst (λ (y : State). MayStart y c.args.n) (sym (core-is c.self.inside c.self.invariant c.args.self.now c.self.view_is)) c.requires) in
    let there : c.args.n < length c.self.inside.core.order = lost-there c.self.inside c.self.invariant c.args.n needs in
    record {
      there = has-link c.self.inside c.self.invariant c.args.n there;
      session = has-tally c.self.inside c.self.invariant c.args.n there;
      some = is-counted c.self.inside c.self.invariant c.args.n there (lost-unended c.self.inside c.self.invariant c.args.n needs);
    }

pub push_reserved-requires : goal.push_reserved-requires
push_reserved-requires c =
    let needs : Needs c.self.inside.core (Loses c.args.n) = inr (subst (λ (y : State). MayStart y c.args.n) (sym (core-is c.self.inside c.self.invariant c.args.self.now c.self.view_is)) c.requires) in
    omega (arith, event-room c.self.inside c.self.invariant (Loses c.args.n) needs c.the_order_has_room.ensures.order, c.self.inside.events.ok.0)

pub invariant_of-self : goal.invariant_of-self
invariant_of-self c =
    let needs : Needs c.self.inside.core (Loses c.args.n) = inr (subst (λ (y : State). MayStart y c.args.n) (sym (core-is c.self.inside c.self.invariant c.args.self.now c.self.view_is)) c.requires) in
    let d : Inside = record { alloc = c.self.inside.alloc; core = c.lose_untried.new.core; events = c.push_reserved.new.self; links = c.self.inside.links; tallies = c.count_end.new.tallies } in
    let next : Next c.self.inside d (Loses c.args.n) = record {
      core = c.lose_untried.ensures;
      events = c.push_reserved.ensures.items;
      events_room = c.push_reserved.ensures.capacity;
      links_room = refl;
      tallies_room = c.count_end.ensures.room;
    } in
    lost-kept c.self.inside c.self.invariant d c.args.n needs next refl c.count_end.ensures.tallies

pub returns-clause-change : goal.returns-clause-change
returns-clause-change c =
    let d : Inside = record { alloc = c.self.inside.alloc; core = c.lose_untried.new.core; events = c.push_reserved.new.self; links = c.self.inside.links; tallies = c.count_end.new.tallies } in
    let next : Next c.self.inside d (Loses c.args.n) = record {
      core = c.lose_untried.ensures;
      events = c.push_reserved.ensures.items;
      events_room = c.push_reserved.ensures.capacity;
      links_room = refl;
      tallies_room = c.count_end.ensures.room;
    } in
    view-next c.self.inside d (Loses c.args.n) c.self.invariant next c.args.self.now c.self.view_is

pub returns-clause-continues : goal.returns-clause-continues
returns-clause-continues c =
    let needs : Needs c.self.inside.core (Loses c.args.n) = inr (subst (λ (y : State). MayStart y c.args.n) (sym (core-is c.self.inside c.self.invariant c.args.self.now c.self.view_is)) c.requires) in
    let d : Inside = record { alloc = c.self.inside.alloc; core = c.lose_untried.new.core; events = c.push_reserved.new.self; links = c.self.inside.links; tallies = c.count_end.new.tallies } in
    let next : Next c.self.inside d (Loses c.args.n) = record {
      core = c.lose_untried.ensures;
      events = c.push_reserved.ensures.items;
      events_room = c.push_reserved.ensures.capacity;
      links_room = refl;
      tallies_room = c.count_end.ensures.room;
    } in
    continues c.self.inside d (Loses c.args.n) c.self.invariant needs next c.args.self.now c.self.view_is
