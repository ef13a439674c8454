-- A behaviour that may start runs.
use Rattle.std.proofs.Common.{◌≡◌, ℕ, ◌+◌, false, true, cond, ◌&&◌, Bool, List, [], length, get_or, set, refl, ap, sym, ◌∙◌, subst, arith}
use Rattle.std.specs.Vec.{with_item, with_items}
use Rattle.bl_policy.specs.declared.access.Access.{Access}
use Rattle.bl_work.specs.declared.answer.Answer.{Answer}
use Rattle.bl_order.specs.Order.{accesses_of, is_rule}
use Rattle.bl_order.specs.Past.{is_done, changed, may_alter}
use Rattle.bl_order.specs.Machine.{Running, Ended, MayStart, Starts, change, past_at, phase_at, is_running}
use Rattle.bl_order.specs.Now.{content_now}
use Rattle.bl_order.proofs.Reached.{sound-reached}
use Rattle.bl_order.proofs.StateLaws.{changed-skips}
use Rattle.bl_order.proofs.Trails.{moves-start}
use Rattle.bl_order.proofs.Present.{moves_on-reached}
use Rattle.bl_place.specs.Places.{place_in, phase_of, task_in}
use Rattle.bl_place.specs.Shelves.{marked}
use Rattle.bl_place.specs.Queueing.{QueuesTell}
use Rattle.bl_queue.specs.Queues.{Queue, with_stand}
use Rattle.bl_queue.specs.declared.entry.Stand.TheVariants as queues
use Rattle.bl_core.specs.View.{state_of}
use Rattle.bl_core.specs.Keeps.{Keeps, AreShelved}
use Rattle.bl_place.specs.declared.place.Place.{Place}
use Rattle.bl_place.specs.declared.place.Stand.TheVariants as stands
use Rattle.bl_place.specs.declared.shelf.Shelf.{Shelf}
use Rattle.bl_core.specs.declared.machine.Core.TheInside.{Inside}
use Rattle.bl_core.proofs.Grown.{Same}
use Rattle.bl_core.proofs.Written.{Written, append_nil, stands_at, same-read}
use Rattle.bl_core.proofs.Queueing.{tell-set}
use Rattle.bl_core.proofs.Starting.{there-may, state-started, kept-started, runs-no_rule, waiting_is_not_running}
use Rattle.bl_core.proofs.Shelving.{shelved-marked, length-marked}
use Rattle.bl_core.proofs.Lending.{written_items}

abbrev pub running : Inside → ℕ → Place → Queue → List Shelf → Inside
running c n s q h = record c { places = with_item c.places n (stands_at s stands.Running); queues = q; shelves = with_items c.shelves h }

module _ (c : Inside) (k : Keeps c) (n : ℕ) (s : Place) (may : MayStart (state_of c) n) (at : s ≡ get_or c.places.items n s)
    (behaviour : is_rule (past_at (state_of c) n).task ≡ false) (done : is_done (past_at (state_of c) n).answer ≡ true)
    (q : Queue) (begun : q ≡ with_stand c.queues n queues.Started) (h : List Shelf) (xs : List Access) (for : xs ≡ accesses_of (task_in c.places.items n)) (lends : h ≡ marked c.shelves.items xs) where
  lent_items : (with_items c.shelves h).items ≡ marked c.shelves.items xs
  lent_items = written_items c h (omega (arith, ap length lends, length-marked c.shelves.items xs, c.shelves.ok.0)) ∙ lends

  written : Written c (running c n s q h) n (stands_at s stands.Running) []
  written = record {
    setup = refl;
    limit = refl;
    weight = refl;
    sessions = refl;
    rooms = refl;
    places = sym (append_nil (set c.places.items n (stands_at s stands.Running)));
    capacity = refl;
    queued = subst
        (QueuesTell (length c.setup.policy.documents + 1) c.limit (set c.places.items n (stands_at s stands.Running)) (length (set c.places.items n (stands_at s stands.Running)))) (sym begun)
        (tell-set c.places.items n s stands.Running (length c.setup.policy.documents + 1) c.limit c.queues (there-may c n may) at (λ m lt. (k.told m lt).root) k.queued);
  }

  same : Same (place_in c.places.items n) (stands_at s stands.Running)
  same = same-read c.places.items n s stands.Running (there-may c n may) at

  phase : phase_of stands.Running ≡ cond (is_done (past_at (state_of c) n).answer) Running Ended
  phase = ap (λ (b : Bool). cond b Running Ended) (sym done)

  unanswered : (a : Answer) → stands.Running ≡ stands.Ended a → (past_at (state_of c) n).answer ≡ a
  unanswered a e = absurd (cc)

  policy : c.policy ≡ changed (past_at (state_of c) n).answer (past_at (state_of c) n).task (past_at (state_of c) n).subject c.policy
  policy = sym (changed-skips (past_at (state_of c) n).answer (past_at (state_of c) n).task (past_at (state_of c) n).subject c.policy behaviour)

  -- no content changes
  content : (o : ℕ) → content_now (change (state_of c) (Starts n)) o ≡ content_now (state_of c) o
  content o =
      (moves_on-reached (state_of c) k.reached).start_content n o may
      ∙ ap (λ (b : Bool). cond (b && may_alter (past_at (state_of c) n).task o) [] (content_now (state_of c) o)) (runs-no_rule (past_at (state_of c) n).answer done)

  shelved : AreShelved (change (state_of c) (Starts n)) (with_items c.shelves h).items
  shelved =
      subst (AreShelved (change (state_of c) (Starts n))) (sym lent_items)
      (shelved-marked (state_of c) (change (state_of c) (Starts n)) n (cond (is_done (past_at (state_of c) n).answer) Running Ended) (sound-reached (state_of c) k.reached)
      (moves-start (state_of c) (sound-reached (state_of c) k.reached) n may) (waiting_is_not_running (phase_at (state_of c) n) may.waits)
      (ap (λ (b : Bool). is_running (cond b Running Ended)) done) xs (for ∙ ap accesses_of (sym (k.told n (there-may c n may)).task))
      c.shelves.items content k.shelved)

  pub run-state : state_of (running c n s q h) ≡ change (state_of c) (Starts n)
  run-state =
      state-started c (running c n s q h) n (stands_at s stands.Running) written k may same phase unanswered policy refl refl
      (ap length lent_items ∙ length-marked c.shelves.items xs) shelved

  pub run-kept : Keeps (running c n s q h)
  run-kept =
      kept-started c (running c n s q h) n (stands_at s stands.Running) written k may same phase unanswered policy refl refl
      (ap length lent_items ∙ length-marked c.shelves.items xs) shelved
