use Rattle.std.proofs.Common.{◌≡◌, ℕ, ◌<◌, ◌++◌, length, get_or, set, refl, sym, ◌∙◌, ap, subst, inr, arith, length-set}
use Rattle.std.specs.Prelude.{All, map}
use Rattle.std.proofs.lemmas.List.{get_or_read}
use Rattle.bl_work.specs.declared.work.Work.{Work}
use Rattle.bl_order.specs.Known.{KnowsWork}
use Rattle.bl_order.specs.Past.{child_task, first_task}
use Rattle.bl_order.specs.Room.{IsBehaviourOrRule}
use Rattle.bl_queue.specs.Queues.{Queue, with_stand}
use Rattle.bl_replay.specs.Keeps.{KeepsAt}
use Rattle.bl_replay.specs.Kept.{child_places, no_place, queued_as, stand_of}
use Rattle.bl_replay.specs.declared.place.Place.{Place}
use Rattle.bl_replay.specs.declared.place.Stand.TheVariants.{Ended}
use Rattle.bl_replay.proofs.Standing.{standing}
use Rattle.bl_replay.proofs.Admitting.{known-cowns}
use Rattle.bl_replay.proofs.Ending.{are-tasks, have-room, keeps-ended}
use Rattle.bl_replay.proofs.Queueing.{runs-queued, runs-within}
use Rattle.bl_replay.proofs.Spawning.{spawned-are}
use Rattle.bl_replay.proofs.replayer.Replayer.finish.Goals as goal

pub end-requires : goal.end-requires
end-requires c = inr (runs-queued c.requires.runs.0 c.args.self.now c.requires.runs.1 c.args.n c.requires.runs.3)

pub enter_children-requires-clause-known : goal.enter_children-requires-clause-known
enter_children-requires-clause-known c index =
    let keeps : KeepsAt c.requires.runs.0 c.args.self.now = c.requires.runs.1 in
    let within : c.args.n < length c.args.self.now.places.items = runs-within c.requires.runs.0 c.args.self.now keeps c.args.n c.requires.runs.3 in
    let work : KnowsWork c.requires.runs.0.setup c.in_ok-work.work =
    subst (KnowsWork c.requires.runs.0.setup) (sym (c.in_ok-work.ensures ∙ ap (λ (p : Place). p.work) c.index.ensures))
    (keeps.known c.args.n c.index.result.now within).work in
    known-cowns c.requires.runs.0.setup c.in_ok-work.work index c.end.new.self.cowns
    (ap (λ (q : Queue). q.cowns) c.end.ensures ∙ ap (λ (q : Queue). q.cowns) keeps.queues) work

pub enter_children-requires-clause-limit : goal.enter_children-requires-clause-limit
enter_children-requires-clause-limit c =
    omega (arith, ap (λ (q : Queue). q.limit) c.end.ensures, ap (λ (q : Queue). q.limit) c.requires.runs.1.queues, c.requires.runs.1.low)

pub enter_children-requires-clause-room : goal.enter_children-requires-clause-room
enter_children-requires-clause-room c =
    let x = c.requires.runs.0 in
    let r = c.args.self.now in
    let keeps = c.requires.runs.1 in
    let running = c.requires.runs.3 in
    let p : Place = c.index_mut.result.now in
    let are =
    c.spawned-spawned.ensures
    ∙ spawned-are x r keeps c.requires.runs.2 (c.what_is_at_hand_rests_on_ended_places.ensures.rests x keeps.reached) c.args.n running c.requires.kept c.requires.told in
    let room =
    have-room x r c.args.n p c.spawned-spawned.result.now keeps running (runs-within x r keeps c.args.n running) c.index_mut.ensures.value are c.the_order_has_room.ensures.children in
    omega (arith, room, ap (λ (q : Queue). q.limit) c.end.ensures, ap (λ (q : Queue). q.limit) keeps.queues, length-set r.places.items c.args.n (standing p Ended))

pub enter_children-requires-clause-tasks : goal.enter_children-requires-clause-tasks
enter_children-requires-clause-tasks c =
    let x = c.requires.runs.0 in
    let r = c.args.self.now in
    let keeps = c.requires.runs.1 in
    let running = c.requires.runs.3 in
    let within = runs-within x r keeps c.args.n running in
    let p : Place = c.index_mut.result.now in
    let are =
    c.spawned-spawned.ensures
    ∙ spawned-are x r keeps c.requires.runs.2 (c.what_is_at_hand_rests_on_ended_places.ensures.rests x keeps.reached) c.args.n running c.requires.kept c.requires.told in
    let here : p ≡ get_or r.places.items c.args.n no_place = get_or_read r.places.items c.args.n p within c.index_mut.ensures.value no_place in
    let there : c.index.result.now ≡ get_or r.places.items c.args.n no_place = get_or_read r.places.items c.args.n c.index.result.now within c.index.ensures no_place in
    let work : c.in_ok-work.work ≡ p.work = c.in_ok-work.ensures ∙ ap (λ (q : Place). q.work) (there ∙ sym here) in
    subst (λ (w : Work). All (λ (index : ℕ). IsBehaviourOrRule (child_task (first_task w) index)) c.spawned-spawned.result.now) (sym work)
    (are-tasks x r c.args.n p c.spawned-spawned.result.now keeps running within c.index_mut.ensures.value are c.steps_lead_on.ensures.next c.tasks_are_of_scripts.ensures)

pub returns-clause-keeps : goal.returns-clause-keeps
returns-clause-keeps c x keeps foretold running =
    let within : c.args.n < length c.args.self.now.places.items = runs-within x c.args.self.now keeps c.args.n running in
    let p : Place = c.index_mut.result.now in
    let at : p ≡ get_or c.args.self.now.places.items c.args.n p = c.index_mut.ensures.value in
    let here : p ≡ get_or c.args.self.now.places.items c.args.n no_place = get_or_read c.args.self.now.places.items c.args.n p within at no_place in
    let there : c.index.result.now ≡ get_or c.args.self.now.places.items c.args.n no_place =
    get_or_read c.args.self.now.places.items c.args.n c.index.result.now within c.index.ensures no_place in
    let work : c.in_ok-work.work ≡ p.work = c.in_ok-work.ensures ∙ ap (λ (q : Place). q.work) (there ∙ sym here) in
    keeps-ended x c.args.self.now _ c.args.n p c.spawned-spawned.result.now keeps running c.steps_lead_on.ensures.next within at
    (c.spawned-spawned.ensures ∙ spawned-are x c.args.self.now keeps foretold (c.what_is_at_hand_rests_on_ended_places.ensures.rests x keeps.reached) c.args.n running c.requires.kept c.requires.told)
    (record {
      setup = refl;
      limit = refl;
      weight = refl;
      marks = refl;
      monitor = refl;
      answers = refl;
      sessions = refl;
      places = c.in_ok-enter_children.ensures.places ∙ ap (λ w. set c.args.self.now.places.items c.args.n (standing p Ended) ++ child_places c.args.n w 1 c.spawned-spawned.result.now) work;
      queues = c.in_ok-enter_children.ensures.queues
          ∙ ap (λ (q : Queue). record q { entries = q.entries ++ map queued_as (child_places c.args.n c.in_ok-work.work 1 c.spawned-spawned.result.now) }) c.end.ensures
          ∙ ap (λ w. record (with_stand c.args.self.now.queues c.args.n (stand_of Ended)) { entries = (with_stand c.args.self.now.queues c.args.n (stand_of Ended)).entries ++ map queued_as (child_places c.args.n w 1 c.spawned-spawned.result.now) }) work;
    })
