use Rattle.std.proofs.Common.{refl, subst, arith}
use Rattle.bl_order.specs.Machine.{State, Starts, MayStart}
use Rattle.bl_core.specs.Answers.{IsStarted}
use Rattle.bl_core.specs.declared.refusal.StartFault.TheVariants as start_fault
use Rattle.bl_hall.specs.declared.hall.Hall.TheInside.{Inside}
use Rattle.bl_hall.proofs.Events.{has-tally, is-counted, may-unended, start-kept}
use Rattle.bl_hall.proofs.Starting.{may-from, ok-no-err}
use Rattle.bl_hall.proofs.Keeping.{Next, continues, core-is, event-room, view-next}
use Rattle.bl_hall.proofs.hall.Hall.start.Goals as goal

pub count_start-requires-clause-session : goal.count_start-requires-clause-session
count_start-requires-clause-session c =
    let may : MayStart c.self.inside.core c.args.n =
    may-from c.self.inside.core c.args.n (c.may_start_is_tested.ensures c.self.inside.core c.args.n) (λ no. ok-no-err c.in-Ok.begun start_fault.NotReady refl (c.in-Ok.ensures.not_ready.1 no))
    in
    has-tally c.self.inside c.self.invariant c.args.n may.there

pub count_start-requires-clause-some : goal.count_start-requires-clause-some
count_start-requires-clause-some c =
    let may : MayStart c.self.inside.core c.args.n =
    may-from c.self.inside.core c.args.n (c.may_start_is_tested.ensures c.self.inside.core c.args.n) (λ no. ok-no-err c.in-Ok.begun start_fault.NotReady refl (c.in-Ok.ensures.not_ready.1 no))
    in
    is-counted c.self.inside c.self.invariant c.args.n may.there (may-unended c.self.inside c.self.invariant c.args.n may)

pub push_reserved-requires : goal.push_reserved-requires
push_reserved-requires c =
    let may : MayStart c.self.inside.core c.args.n =
    may-from c.self.inside.core c.args.n (c.may_start_is_tested.ensures c.self.inside.core c.args.n) (λ no. ok-no-err c.in-Ok.begun start_fault.NotReady refl (c.in-Ok.ensures.not_ready.1 no))
    in
    omega (arith, event-room c.self.inside c.self.invariant (Starts c.args.n) may c.the_order_has_room.ensures.order, c.self.inside.events.ok.0)

pub invariant_of-self : goal.invariant_of-self
invariant_of-self c =
    let may : MayStart c.self.inside.core c.args.n =
    may-from c.self.inside.core c.args.n (c.may_start_is_tested.ensures c.self.inside.core c.args.n) (λ no. ok-no-err c.in-Ok.begun start_fault.NotReady refl (c.in-Ok.ensures.not_ready.1 no))
    in
    let d : Inside = record { alloc = c.self.inside.alloc; core = c.start.new.self; events = c.push_reserved.new.self; links = c.self.inside.links; tallies = c.count_start.new.tallies } in
    let next : Next c.self.inside d (Starts c.args.n) = record {
      core = c.in-Ok.ensures.ok.1;
      events = c.push_reserved.ensures.items;
      events_room = c.push_reserved.ensures.capacity;
      links_room = refl;
      tallies_room = c.count_start.ensures.room;
    } in
    start-kept c.self.inside c.self.invariant d c.args.n may next refl c.count_start.ensures.tallies

pub returns-in-Ok-clause-ok : goal.returns-in-Ok-clause-ok
returns-in-Ok-clause-ok c =
    let d : Inside = record { alloc = c.self.inside.alloc; core = c.start.new.self; events = c.push_reserved.new.self; links = c.self.inside.links; tallies = c.count_start.new.tallies } in
    let next : Next c.self.inside d (Starts c.args.n) = record {
      core = c.in-Ok.ensures.ok.1;
      events = c.push_reserved.ensures.items;
      events_room = c.push_reserved.ensures.capacity;
      links_room = refl;
      tallies_room = c.count_start.ensures.room;
    } in (
      subst (λ (y : State). IsStarted y c.args.n c.in-Ok.begun) (core-is c.self.inside c.self.invariant c.args.self.now c.self.view_is) c.in-Ok.ensures.ok.0,
      view-next c.self.inside d (Starts c.args.n) c.self.invariant next c.args.self.now c.self.view_is,
    )

pub returns-in-Ok-clause-continues : goal.returns-in-Ok-clause-continues
returns-in-Ok-clause-continues c =
    let may : MayStart c.self.inside.core c.args.n =
    may-from c.self.inside.core c.args.n (c.may_start_is_tested.ensures c.self.inside.core c.args.n) (λ no. ok-no-err c.in-Ok.begun start_fault.NotReady refl (c.in-Ok.ensures.not_ready.1 no))
    in
    let d : Inside = record { alloc = c.self.inside.alloc; core = c.start.new.self; events = c.push_reserved.new.self; links = c.self.inside.links; tallies = c.count_start.new.tallies } in
    let next : Next c.self.inside d (Starts c.args.n) = record {
      core = c.in-Ok.ensures.ok.1;
      events = c.push_reserved.ensures.items;
      events_room = c.push_reserved.ensures.capacity;
      links_room = refl;
      tallies_room = c.count_start.ensures.room;
    } in
    continues c.self.inside d (Starts c.args.n) c.self.invariant may next c.args.self.now c.self.view_is
