use Rattle.std.proofs.Common.{List, length, sym, subst, ap, arith}
use Rattle.std.specs.Prelude.{All, map}
use Rattle.bl_setup.specs.Setup.{Setup}
use Rattle.bl_replay.specs.Fed.{ComeInOrder, IsFed}
use Rattle.bl_replay.specs.Kept.{KnowsPlace, entry_in}
use Rattle.bl_replay.specs.Marks.{lost_later}
use Rattle.bl_replay.specs.declared.mark.Mark.{Mark}
use Rattle.bl_replay.specs.declared.place.Place.{Place}
use Rattle.bl_replay.proofs.Coming.{come-in-order}
use Rattle.bl_replay.proofs.Moving.{many-places}
use Rattle.bl_replay.proofs.replayer.Replayer.feed_to.Goals as goal

pub feed-requires-clause-there : goal.feed-requires-clause-there
feed-requires-clause-there c = omega (arith, c.requires.3, many-places c.requires.0 c.args.self.now c.requires.1, ap length c.deref.ensures.value)

pub feed-requires-clause-small : goal.feed-requires-clause-small
feed-requires-clause-small c =
    omega (arith, c.the_order_has_room.ensures.order c.requires.0 c.requires.1.reached, c.requires.1.low, many-places c.requires.0 c.args.self.now c.requires.1, ap length c.deref.ensures.value)

pub feed-requires-clause-known : goal.feed-requires-clause-known
feed-requires-clause-known c = subst (λ (l : List Place). All (KnowsPlace c.args.self.now.monitor.setup) l) (sym c.deref.ensures.value) (subst (λ (s : Setup). All (KnowsPlace s) c.args.self.now.places.items) (sym c.requires.1.fed.told.setup_is) c.requires.1.known)

pub feed-requires-clause-come : goal.feed-requires-clause-come
feed-requires-clause-come c =
    let x = c.requires.0 in
    let keeps = c.requires.1 in
    let hand = c.what_is_at_hand_rests_on_ended_places.ensures in
    subst (λ (l : List Place). ComeInOrder c.args.self.now.monitor.setup (lost_later c.deref-2.result.now) l) (sym c.deref.ensures.value)
    (subst (λ (m : List Mark). ComeInOrder c.args.self.now.monitor.setup (lost_later m) c.args.self.now.places.items) (sym c.deref-2.ensures.value)
    (subst (λ (s : Setup). ComeInOrder s (lost_later c.args.self.now.marks.items) c.args.self.now.places.items) (sym keeps.fed.told.setup_is)
    (come-in-order x c.args.self.now keeps c.requires.2 (hand.rests x keeps.reached) (hand.parents x keeps.reached) (c.each_state_holds.ensures x keeps.reached).legal)))

pub feed-requires-clause-fed : goal.feed-requires-clause-fed
feed-requires-clause-fed c =
    subst (λ (l : List Place). IsFed c.args.self.now.monitor.setup (lost_later c.deref-2.result.now) (map entry_in l) c.args.self.now.monitor c.args.self.now.answers.items) (sym c.deref.ensures.value)
    (subst (λ (m : List Mark). IsFed c.args.self.now.monitor.setup (lost_later m) (map entry_in c.args.self.now.places.items) c.args.self.now.monitor c.args.self.now.answers.items) (sym c.deref-2.ensures.value)
    (subst (λ (s : Setup). IsFed s (lost_later c.args.self.now.marks.items) (map entry_in c.args.self.now.places.items) c.args.self.now.monitor c.args.self.now.answers.items)
    (sym c.requires.1.fed.told.setup_is) c.requires.1.fed))

pub returns-clause-keeps : goal.returns-clause-keeps
returns-clause-keeps c x keeps = record {
  reached = keeps.reached;
  agree = keeps.agree;
  setup = keeps.setup;
  limit = keeps.limit;
  low = keeps.low;
  sessions = keeps.sessions;
  few = keeps.few;
  speakers = keeps.speakers;
  order = keeps.order;
  phases = keeps.phases;
  weight = keeps.weight;
  tasks = keeps.tasks;
  known = keeps.known;
  queues = keeps.queues;
  fed = subst (λ (s : Setup). IsFed s (lost_later c.args.self.now.marks.items) (map entry_in c.args.self.now.places.items) c.feed.new.monitor c.feed.new.answers.items)
      keeps.fed.told.setup_is
      (subst (λ (l : List Place). IsFed c.args.self.now.monitor.setup (lost_later c.args.self.now.marks.items) (map entry_in l) c.feed.new.monitor c.feed.new.answers.items) c.deref.ensures.value
      (subst (λ (m : List Mark). IsFed c.args.self.now.monitor.setup (lost_later m) (map entry_in c.deref.result.now) c.feed.new.monitor c.feed.new.answers.items) c.deref-2.ensures.value
      c.in_ok-feed.ensures.fed));
}
