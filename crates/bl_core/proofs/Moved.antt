-- What every event keeps of the fields.
use Rattle.std.proofs.Common.{◌≡◌, ℕ, ◌<◌, ◌≤◌, ◌+◌, ◌⊎◌, inl, inr, Bool, length, get_or, refl, ap, sym, ◌∙◌, subst, arith}
use Rattle.std.specs.Prelude.{sum_by, All}
use Rattle.std.specs.Vec.{vec_capacity}
use Rattle.bl_level.specs.Level.{join_of}
use Rattle.bl_work.specs.declared.answer.Answer.{Answer}
use Rattle.bl_setup.specs.Setup.{Setup}
use Rattle.bl_setup.specs.Agreement.{Agree}
use Rattle.bl_setup.specs.declared.version.Version.{Version}
use Rattle.bl_setup.specs.declared.version.Version.TheVariants.{One, Two}
use Rattle.bl_order.specs.Order.{Entry, Line, Child}
use Rattle.bl_order.specs.Past.{Past, no_entry, carried_of, earlier}
use Rattle.bl_order.specs.Machine.{State, Event, Opens, Admits, Starts, Ends, Loses, Needs, change, past_at, phase_at, has_ended, is_lost, is_over, entry_weight}
use Rattle.bl_order.specs.Now.{policy_now}
use Rattle.bl_order.proofs.Places.{at_place-earlier}
use Rattle.bl_order.proofs.Sound.{HasParent, IsSound}
use Rattle.bl_order.proofs.Reached.{sound-reached, reached-next}
use Rattle.bl_order.proofs.Steps.{past-alike, running_is_not_over, waiting_is_not_over}
use Rattle.bl_order.proofs.Trails.{past-step, past-admitted, past-started, past-ended, within}
use Rattle.bl_order.proofs.Frame.{IsAlike}
use Rattle.bl_place.specs.Places.{place_in}
use Rattle.bl_place.specs.Queueing.{QueuesTell}
use Rattle.bl_core.specs.View.{state_of}
use Rattle.bl_core.specs.Keeps.{Keeps, KeepsAt, Tells, AreShelved}
use Rattle.bl_place.specs.declared.place.Stand.TheVariants.{Ended}
use Rattle.bl_core.specs.declared.session.Session.{Session}
use Rattle.bl_core.specs.declared.machine.Core.TheInside.{Inside}
use Rattle.bl_core.proofs.Grown.{Grows, tells-grown}
use Rattle.bl_core.proofs.Views.{length-order, phase-read, over-by}

-- a record has the same task, the same subject, and carries the same
pub record Speaks (p q : Past) : Type 0 where
  pub task : q.task ≡ p.task
  pub subject : q.subject ≡ p.subject
  pub carried : q.carried ≡ p.carried

speaks-same : (p q : Past) → q ≡ p → Speaks p q
speaks-same p q e = record { task = ap (λ (r : Past). r.task) e; subject = ap (λ (r : Past). r.subject) e; carried = ap (λ (r : Past). r.carried) e }

speaks-alike : {b : Bool} (p q : Past) → IsAlike b p q → q.carried ≡ p.carried → Speaks p q
speaks-alike p q a carried = record { task = sym a.task; subject = sym a.subject; carried = carried }

-- a loss changes nothing of what is carried, since each child's parent has ended
carried-lost : (x : State) (k : ℕ) → IsSound x → Needs x (Loses k) → (m : ℕ) → m < length x.order → (past_at (change x (Loses k)) m).carried ≡ (past_at x m).carried
carried-lost x k sound needs m lt = go x.setup.version (get_or x.order m no_entry) (sound.parents m lt)
  where
    go : (v : Version) (e : Entry) → HasParent (has_ended x) m e
        → carried_of v (earlier x.setup (is_lost (change x (Loses k))) x.order m) e ≡ carried_of v (earlier x.setup (is_lost x) x.order m) e
    go One e has = refl
    go Two (Line session ordinal subject work) has = refl
    go Two (Child parent which) has =
        ap (λ (r : Past). join_of r.level r.carried)
        (at_place-earlier x.setup (is_lost (change x (Loses k))) x.order m parent has.0
        ∙ past-step x (Loses k) sound needs parent (omega (arith, has.0, lt)) has.1
        ∙ sym (at_place-earlier x.setup (is_lost x) x.order m parent has.0))

-- no event changes what a place does, who speaks, or what is carried
pub speaks-step : (x : State) (e : Event) → IsSound x → Needs x e → (m : ℕ) → m < length x.order → Speaks (past_at x m) (past_at (change x e) m)
speaks-step x (Opens s) sound needs m lt = speaks-same (past_at x m) (past_at x m) refl
speaks-step x (Admits i o w) sound needs m lt = speaks-same (past_at x m) _ (past-admitted x sound i o w m lt)
speaks-step x (Starts k) sound may m lt = speaks-same (past_at x m) _ (past-started x sound k may m)
speaks-step x (Ends k) sound running m lt = speaks-same (past_at x m) _ (past-ended x sound k running m lt)
speaks-step x (Loses k) sound (inl running) m lt =
    speaks-alike (past_at x m) _ (past-alike x k sound (within x sound k running) (running_is_not_over (phase_at x k) running) m lt)
    (carried-lost x k sound (inl running) m lt)
speaks-step x (Loses k) sound (inr may) m lt =
    speaks-alike (past_at x m) _ (past-alike x k sound may.there (waiting_is_not_over (phase_at x k) may.waits) m lt)
    (carried-lost x k sound (inr may) m lt)

-- what an event makes of the fields
pub record Moved (c d : Inside) (e : Event) : Type 0 where
  pub view : state_of d ≡ change (state_of c) e
  pub setup : d.setup ≡ c.setup
  pub grows : Grows c.places.items d.places.items
  pub stands : (m : ℕ) → m < length c.places.items
      → ((place_in d.places.items m).stand ≡ (place_in c.places.items m).stand)
      ⊎ ((a : Answer) → (place_in d.places.items m).stand ≡ Ended a → (past_at (change (state_of c) e) m).answer ≡ a)
  pub new : (m : ℕ) → length c.places.items ≤ m → m < length d.places.items → Tells c.setup d.places.items m (past_at (change (state_of c) e) m)
  pub policy : d.policy ≡ policy_now (change (state_of c) e)
  pub subjects : length d.policy.subjects ≡ length c.policy.subjects
  pub documents : length d.policy.documents ≡ length c.policy.documents
  pub speakers : All (λ (s : Session). s.subject < length c.setup.policy.subjects) d.sessions.items
  pub as_many : length d.shelves.items ≡ length c.shelves.items
  pub shelved : AreShelved (change (state_of c) e) d.shelves.items
  pub weight : d.weight ≡ sum_by entry_weight (change (state_of c) e).order
  pub queued : QueuesTell (length d.setup.policy.documents + 1) d.limit d.places.items (length d.places.items) d.queues
  pub limit : d.limit ≡ c.limit
  pub capacity : vec_capacity d.places ≡ vec_capacity c.places
  pub rooms : vec_capacity d.sessions ≡ vec_capacity c.sessions

below_or_not : (m n : ℕ) → (m < n) ⊎ (n ≤ m)
below_or_not m n = grind arith

module _ (c d : Inside) (e : Event) (k : Keeps c) (needs : Needs (state_of c) e) (v : Moved c d e) where
  sound : IsSound (state_of c)
  sound = sound-reached (state_of c) k.reached

  old : (m : ℕ) → m < length c.places.items → Tells c.setup d.places.items m (past_at (change (state_of c) e) m)
  old m lt =
      tells-grown c.places.items d.places.items v.grows c.setup m (past_at (state_of c) m) (past_at (change (state_of c) e) m) lt (k.told m lt)
      (speaks-step (state_of c) e sound needs m in_order).task (speaks-step (state_of c) e sound needs m in_order).subject
      (speaks-step (state_of c) e sound needs m in_order).carried
      (answers (v.stands m lt))
    where
      in_order : m < length (state_of c).order
      in_order = subst (λ (j : ℕ). m < j) (sym (length-order c)) lt

      answers : ((place_in d.places.items m).stand ≡ (place_in c.places.items m).stand)
          ⊎ ((a : Answer) → (place_in d.places.items m).stand ≡ Ended a → (past_at (change (state_of c) e) m).answer ≡ a)
          → (a : Answer) → (place_in d.places.items m).stand ≡ Ended a → (past_at (change (state_of c) e) m).answer ≡ a
      answers (inr by) = by
      answers (inl same) = λ a is.
          ap (λ (p : Past). p.answer)
          (past-step (state_of c) e sound needs m in_order (ap is_over (phase-read c m lt) ∙ over-by (place_in c.places.items m).stand a (sym same ∙ is)))
          ∙ (k.told m lt).answer a (sym same ∙ is)

  each : (m : ℕ) → m < length d.places.items → (m < length c.places.items) ⊎ (length c.places.items ≤ m)
      → Tells c.setup d.places.items m (past_at (change (state_of c) e) m)
  each m lt (inl below) = old m below
  each m lt (inr ge) = v.new m ge lt

  keeps_at : KeepsAt (change (state_of c) e) d
  keeps_at = record {
    reached = reached-next (state_of c) e k.reached needs;
    agree = subst Agree (sym v.setup) k.agree;
    two = subst (λ (s : Setup). s.version ≡ Two) (sym v.setup) k.two;
    policy = v.policy;
    subjects = v.subjects ∙ k.subjects ∙ ap (λ (s : Setup). length s.policy.subjects) (sym v.setup);
    documents = v.documents ∙ k.documents ∙ ap (λ (s : Setup). length s.policy.documents) (sym v.setup);
    told = λ m lt. subst (λ (s : Setup). Tells s d.places.items m (past_at (change (state_of c) e) m)) (sym v.setup) (each m lt (below_or_not m (length c.places.items)));
    speakers = subst (λ (s : Setup). All (λ (r : Session). r.subject < length s.policy.subjects) d.sessions.items) (sym v.setup) v.speakers;
    as_many = v.as_many ∙ k.as_many ∙ ap (λ (s : Setup). length s.contents) (sym v.setup);
    shelved = v.shelved;
    weight = v.weight;
    queued = v.queued;
    reserved = omega (arith, k.reserved, v.limit, v.capacity);
    rooms = omega (arith, k.rooms, v.rooms);
  }

  -- an event that moves the fields so keeps what they keep
  pub kept-moved : Keeps d
  kept-moved = subst (λ (y : State). KeepsAt y d) (sym v.view) keeps_at
