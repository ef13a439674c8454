use Rattle.std.proofs.Common.{◌≡◌, List, length, sym, ◌∙◌, subst, ap, arith}
use Rattle.std.specs.Prelude.{All, map}
use Rattle.std.proofs.lemmas.List.{length-map}
use Rattle.bl_setup.specs.Setup.{Setup}
use Rattle.bl_order.specs.Order.{Entry, unnamed}
use Rattle.bl_monitor.specs.Heard.{Heard}
use Rattle.bl_replay.specs.Fed.{ComeInOrder, IsFed}
use Rattle.bl_replay.specs.Keeps.{KeepsAt}
use Rattle.bl_replay.specs.Kept.{KnowsPlace, entry_in}
use Rattle.bl_replay.specs.Marks.{lost_later}
use Rattle.bl_replay.specs.Told.{IsTold}
use Rattle.bl_replay.specs.declared.mark.Mark.{Mark}
use Rattle.bl_replay.specs.declared.place.Place.{Place}
use Rattle.bl_replay.proofs.Coming.{come-in-order}
use Rattle.bl_replay.proofs.Moving.{many-places}
use Rattle.bl_left.proofs.Behind.{stands-behind}
use Rattle.bl_left.proofs.told.tell_all.Goals as goal

pub tell_rest-requires-clause-small : goal.tell_rest-requires-clause-small
tell_rest-requires-clause-small c =
    omega (arith, c.the_order_has_room.ensures.order c.requires.0 c.requires.1.0.reached, c.requires.1.0.low, many-places c.requires.0 c.args.replayer.now c.requires.1.0, ap length c.deref.ensures.value)

pub tell_rest-requires-clause-known : goal.tell_rest-requires-clause-known
tell_rest-requires-clause-known c = subst (λ (l : List Place). All (KnowsPlace c.args.replayer.now.monitor.setup) l) (sym c.deref.ensures.value) (subst (λ (s : Setup). All (KnowsPlace s) c.args.replayer.now.places.items) (sym c.requires.1.0.fed.told.setup_is) c.requires.1.0.known)

pub tell_rest-requires-clause-come : goal.tell_rest-requires-clause-come
tell_rest-requires-clause-come c =
    let x = c.requires.0 in
    let keeps = c.requires.1.0 in
    let hand = c.what_is_at_hand_rests_on_ended_places.ensures in
    subst (λ (l : List Place). ComeInOrder c.args.replayer.now.monitor.setup (lost_later c.deref-2.result.now) l) (sym c.deref.ensures.value)
    (subst (λ (m : List Mark). ComeInOrder c.args.replayer.now.monitor.setup (lost_later m) c.args.replayer.now.places.items) (sym c.deref-2.ensures.value)
    (subst (λ (s : Setup). ComeInOrder s (lost_later c.args.replayer.now.marks.items) c.args.replayer.now.places.items) (sym keeps.fed.told.setup_is)
    (come-in-order x c.args.replayer.now keeps c.requires.1.1 (hand.rests x keeps.reached) (hand.parents x keeps.reached) (c.each_state_holds.ensures x keeps.reached).legal)))

pub tell_rest-requires-clause-fed : goal.tell_rest-requires-clause-fed
tell_rest-requires-clause-fed c =
    subst (λ (l : List Place). IsFed c.args.replayer.now.monitor.setup (lost_later c.deref-2.result.now) (map entry_in l) c.args.replayer.now.monitor c.args.replayer.now.answers.items) (sym c.deref.ensures.value)
    (subst (λ (m : List Mark). IsFed c.args.replayer.now.monitor.setup (lost_later m) (map entry_in c.args.replayer.now.places.items) c.args.replayer.now.monitor c.args.replayer.now.answers.items) (sym c.deref-2.ensures.value)
    (subst (λ (s : Setup). IsFed s (lost_later c.args.replayer.now.marks.items) (map entry_in c.args.replayer.now.places.items) c.args.replayer.now.monitor c.args.replayer.now.answers.items)
    (sym c.requires.1.0.fed.told.setup_is) c.requires.1.0.fed))

pub returns : goal.returns
returns c x at all =
    let r = c.args.replayer.now in
    let keeps : KeepsAt x r = at.0 in
    let marks = lost_later r.marks.items in
    let h : Heard = c.tell_rest.new.monitor in
    let fed : IsFed x.setup marks (map entry_in r.places.items) h c.tell_rest.new.answers.items =
    subst (λ (s : Setup). IsFed s marks (map entry_in r.places.items) h c.tell_rest.new.answers.items) keeps.fed.told.setup_is
    (subst (λ (l : List Place). IsFed r.monitor.setup marks (map entry_in l) h c.tell_rest.new.answers.items) c.deref.ensures.value
    (subst (λ (m : List Mark). IsFed r.monitor.setup (lost_later m) (map entry_in c.deref.result.now) h c.tell_rest.new.answers.items) c.deref-2.ensures.value
    c.in_ok-tell_rest.ensures.fed)) in
    let told : IsTold x.setup marks (map unnamed x.order) h = subst (λ (o : List Entry). IsTold x.setup marks o h) (sym keeps.order) fed.told in
    let many : length h.order ≡ length x.order =
    omega (arith, fed.many, fed.told.few, length-map r.places.items entry_in, many-places x r keeps, c.in_ok-tell_rest.ensures.all, ap length c.deref.ensures.value) in
    stands-behind x marks h told many at.1 all ∙ sym (c.runs_go_on_alike.ensures.stands x all)
