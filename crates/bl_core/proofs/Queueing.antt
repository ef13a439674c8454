-- The queues tell of the places, through each change of these.
use Rattle.std.proofs.Common.{◌≡◌, ◌≢◌, ℕ, ◌+◌, ◌<◌, ◌⊎◌, inl, inr, Bool, true, false, ◌||◌, List, [], ◌∷◌, length, get_or, set, refl, ap, sym, ◌∙◌, subst, arith, length-set, get_or-set_same, get_or-set_other}
use Rattle.std.specs.Prelude.{map}
use Rattle.std.specs.List.{list_any}
use Rattle.std.proofs.lemmas.List.{length-map, get_or-map}
use Rattle.std.proofs.lemmas.List.Elements.{All-map}
use Rattle.bl_work.specs.declared.answer.Answer.TheVariants as answers
use Rattle.bl_setup.specs.Setup.{Setup}
use Rattle.bl_order.specs.Claims.{NumberedClaim, numbered_claims, numbers_exclude, AreFewAndApart}
use Rattle.bl_order.specs.Order.{Task, Runs, conflict}
use Rattle.bl_order.specs.Past.{Past}
use Rattle.bl_order.specs.Machine.{MayStart, past_at, phase_at, runs, is_waiting, is_running, is_over}
use Rattle.bl_order.specs.Room.{IsBehaviourOrRule}
use Rattle.bl_order.proofs.ClaimLaws.{conflict-numbered, few-numbered, known-numbered}
use Rattle.bl_queue.specs.Claims.{AreClaims, excludes}
use Rattle.bl_queue.specs.Claims as queues
use Rattle.bl_queue.specs.Entries.{Entry, no_entry, entry_at, entered, standing, is_started, is_ended}
use Rattle.bl_queue.specs.Entries as entries
use Rattle.bl_queue.specs.Queues.{Queue, with_stand}
use Rattle.bl_queue.specs.declared.claim.Claim.{Claim}
use Rattle.bl_place.specs.Places.{no_place, place_in, phase_of, work_in, task_in}
use Rattle.bl_place.specs.Queueing.{claims_for, stand_for, queued_at, QueuesTell}
use Rattle.bl_core.specs.View.{state_of}
use Rattle.bl_core.specs.Keeps.{Keeps, Tells}
use Rattle.bl_place.specs.declared.place.Place.{Place}
use Rattle.bl_place.specs.declared.place.Stand.{Stand}
use Rattle.bl_place.specs.declared.place.Stand.TheVariants.{Waiting, Running, Ended}
use Rattle.bl_core.specs.declared.machine.Core.TheInside.{Inside}
use Rattle.bl_core.proofs.Grown.{Grows, grows-set, task_in-grown, equal_or_not}
use Rattle.bl_core.proofs.Reading.{accesses-known}
use Rattle.bl_core.proofs.Views.{length-order, phase-read}
use Rattle.bl_core.proofs.Written.{stands_at, same-read}

-- ---- stands

waits-for : (s : Stand) → entries.is_waiting (stand_for s) ≡ is_waiting (phase_of s)
waits-for Waiting = refl
waits-for Running = refl
waits-for (Ended (answers.Done outputs)) = refl
waits-for (Ended answers.RuleDone) = refl
waits-for (Ended (answers.Denied denial)) = refl
waits-for (Ended answers.Lost) = refl

pub runs-for : (s : Stand) → is_started (stand_for s) ≡ is_running (phase_of s)
runs-for Waiting = refl
runs-for Running = refl
runs-for (Ended (answers.Done outputs)) = refl
runs-for (Ended answers.RuleDone) = refl
runs-for (Ended (answers.Denied denial)) = refl
runs-for (Ended answers.Lost) = refl

over-for : (s : Stand) → is_ended (stand_for s) ≡ is_over (phase_of s)
over-for Waiting = refl
over-for Running = refl
over-for (Ended (answers.Done outputs)) = refl
over-for (Ended answers.RuleDone) = refl
over-for (Ended (answers.Denied denial)) = refl
over-for (Ended answers.Lost) = refl

-- ---- claims

abbrev as_claim : NumberedClaim → Claim
as_claim c = record { cown = c.cown; shared = c.shared }

any-along : {X Y : Type 0} (f : X → Y) (test : Y → Bool) (tried : X → Bool) (xs : List X) → ((x : X) → test (f x) ≡ tried x) → list_any test (map f xs) ≡ list_any tried xs
any-along f test tried [] same = refl
any-along f test tried (x ∷ xs) same =
    ap (λ t. t || list_any test (map f xs)) (same x) ∙ ap (λ t. tried x || t) (any-along f test tried xs same)

-- two tasks conflict where their claims in the queues do
conflict-for : (earlier later : Task) → queues.conflict (claims_for earlier) (claims_for later) ≡ conflict earlier later
conflict-for earlier later =
    any-along as_claim (λ a. list_any (λ b. excludes a b) (claims_for later)) (λ a. list_any (λ b. numbers_exclude a b) (numbered_claims later)) (numbered_claims earlier)
    (λ a. any-along as_claim (λ b. excludes (as_claim a) b) (λ b. numbers_exclude a b) (numbered_claims later) (λ b. refl))
    ∙ sym (conflict-numbered earlier later)

-- a task that is told has claims that an entry may have
pub claims-right : (setup : Setup) (places : List Place) (n : ℕ) (past : Past) → Tells setup places n past → IsBehaviourOrRule (task_in places n)
    → AreClaims (length setup.policy.documents + 1) (claims_for (task_in places n))
claims-right setup places n past told is = record {
  few = omega (arith, right.few, length-map (numbered_claims task) as_claim);
  known = All-map (λ (c : Claim). c.cown < length setup.policy.documents + 1) as_claim (numbered_claims task)
      (known-numbered task (length setup.policy.documents) (accesses-known setup (work_in places n) (place_in places n).index told.knows told.behaviour));
  apart = λ i j d lt within same.
      let inside : j < length (numbered_claims task) = omega (arith, within, length-map (numbered_claims task) as_claim) in
      right.apart i j none lt inside
      (ap (λ (c : Claim). c.cown) (sym (get_or-map as_claim (numbered_claims task) i none d (omega (arith, lt, inside))))
      ∙ same ∙ ap (λ (c : Claim). c.cown) (get_or-map as_claim (numbered_claims task) j none d inside));
}
  where
    task : Task
    task = task_in places n

    right : AreFewAndApart (numbered_claims task)
    right = few-numbered task is

    none : NumberedClaim
    none = record { cown = 0; shared = false }

-- ---- who may start

module _ (c : Inside) (k : Keeps c) where
  conflict-queued : (m n : ℕ) → m < length c.places.items → n < length c.places.items
      → queues.conflict (entry_at c.queues.entries m).claims (entry_at c.queues.entries n).claims ≡ conflict (past_at (state_of c) m).task (past_at (state_of c) n).task
  conflict-queued m n lm ln =
      ap (λ (e : Entry). queues.conflict e.claims (entry_at c.queues.entries n).claims) (k.queued.each m lm)
      ∙ ap (λ (e : Entry). queues.conflict (claims_for (task_in c.places.items m)) e.claims) (k.queued.each n ln)
      ∙ conflict-for (task_in c.places.items m) (task_in c.places.items n)
      ∙ ap (λ (t : Task). conflict t (task_in c.places.items n)) (sym (k.told m lm).task)
      ∙ ap (conflict (past_at (state_of c) m).task) (sym (k.told n ln).task)

  waits-queued : (n : ℕ) → n < length c.places.items → entries.is_waiting (entry_at c.queues.entries n).stand ≡ is_waiting (phase_at (state_of c) n)
  waits-queued n lt =
      ap (λ (e : Entry). entries.is_waiting e.stand) (k.queued.each n lt) ∙ waits-for (place_in c.places.items n).stand ∙ ap is_waiting (sym (phase-read c n lt))

  over-queued : (n : ℕ) → n < length c.places.items → is_ended (entry_at c.queues.entries n).stand ≡ is_over (phase_at (state_of c) n)
  over-queued n lt = ap (λ (e : Entry). is_ended e.stand) (k.queued.each n lt) ∙ over-for (place_in c.places.items n).stand ∙ ap is_over (sym (phase-read c n lt))

  pub may-queued : (n : ℕ) → entries.MayStart c.queues.entries n → MayStart (state_of c) n
  may-queued n may =
      let lt : n < length c.places.items = omega (arith, may.there, k.queued.as_many) in
      record {
        there = subst (λ (m : ℕ). n < m) (sym (length-order c)) lt;
        waits = sym (waits-queued n lt) ∙ may.waits;
        clear = λ m below h.
            let lm : m < length c.places.items = omega (arith, below, lt) in
            sym (over-queued m lm) ∙ may.clear m below (conflict-queued m n lm lt ∙ h);
      }

  pub queue-may : (n : ℕ) → MayStart (state_of c) n → entries.MayStart c.queues.entries n
  queue-may n may =
      let lt : n < length c.places.items = subst (λ (m : ℕ). n < m) (length-order c) may.there in
      record {
        there = omega (arith, lt, k.queued.as_many);
        waits = waits-queued n lt ∙ may.waits;
        clear = λ m below h.
            let lm : m < length c.places.items = omega (arith, below, lt) in
            over-queued m lm ∙ may.clear m below (sym (conflict-queued m n lm lt) ∙ h);
      }

  pub queue-runs : (n : ℕ) → n < length c.places.items → runs (state_of c) n ≡ true → entries.Runs c.queues.entries n
  queue-runs n lt r = record {
    there = omega (arith, lt, k.queued.as_many);
    started = ap (λ (e : Entry). is_started e.stand) (k.queued.each n lt) ∙ runs-for (place_in c.places.items n).stand ∙ ap is_running (sym (phase-read c n lt)) ∙ r;
  }

-- ---- changes

module _ (old new : List Place) (g : Grows old new) (rooted : (m : ℕ) → m < length old → (place_in old m).root < length old) (cowns limit : ℕ) (q : Queue)
    (tell : QueuesTell cowns limit old (length old) q) where
  entry-same : (m : ℕ) → m < length old → (place_in new m).stand ≡ (place_in old m).stand → queued_at old m ≡ queued_at new m
  entry-same m lt stays = λ i. record {
    claims = claims_for (sym (task_in-grown old new g m lt (rooted m lt)) i);
    stand = stand_for (sym stays i);
  }

  -- where no place stands otherwise
  pub tell-grown : ((m : ℕ) → m < length old → (place_in new m).stand ≡ (place_in old m).stand) → QueuesTell cowns limit new (length old) q
  tell-grown stays = record {
    cowns_are = tell.cowns_are;
    limit_is = tell.limit_is;
    as_many = tell.as_many;
    each = λ m lt. tell.each m lt ∙ entry-same m lt (stays m lt);
  }

  -- where one place does
  pub tell-stands : (n : ℕ) (s : Stand) → n < length old → (place_in new n).stand ≡ s
      → ((m : ℕ) → m < length old → m ≢ n → (place_in new m).stand ≡ (place_in old m).stand)
      → QueuesTell cowns limit new (length old) (with_stand q n (stand_for s))
  tell-stands n s here stands stays = record {
    cowns_are = tell.cowns_are;
    limit_is = tell.limit_is;
    as_many = length-set q.entries n other ∙ tell.as_many;
    each = λ m lt. each m lt (equal_or_not m n);
  }
    where
      other : Entry
      other = standing (entry_at q.entries n) (stand_for s)

      moved : standing (queued_at old n) (stand_for s) ≡ queued_at new n
      moved = λ i. record {
        claims = claims_for (sym (task_in-grown old new g n here (rooted n here)) i);
        stand = stand_for (sym stands i);
      }

      each : (m : ℕ) → m < length old → (m ≡ n) ⊎ (m ≢ n) → entry_at (set q.entries n (standing (entry_at q.entries n) (stand_for s))) m ≡ queued_at new m
      each m lt (inl e) =
          ap (λ (j : ℕ). entry_at (set q.entries n (standing (entry_at q.entries n) (stand_for s))) j) e
          ∙ get_or-set_same q.entries n (standing (entry_at q.entries n) (stand_for s)) no_entry (omega (arith, here, tell.as_many))
          ∙ ap (λ (v : Entry). standing v (stand_for s)) (tell.each n here)
          ∙ moved
          ∙ ap (queued_at new) (sym e)
      each m lt (inr ne) =
          get_or-set_other q.entries n m (standing (entry_at q.entries n) (stand_for s)) no_entry ne ∙ tell.each m lt ∙ entry-same m lt (stays m lt ne)

-- one place stands otherwise, and no other follows
pub tell-set : (S : List Place) (n : ℕ) (s : Place) (v : Stand) (cowns limit : ℕ) (q : Queue) → n < length S → s ≡ get_or S n s
    → ((m : ℕ) → m < length S → (place_in S m).root < length S) → QueuesTell cowns limit S (length S) q
    → QueuesTell cowns limit (set S n (stands_at s v)) (length (set S n (stands_at s v))) (with_stand q n (stand_for v))
tell-set S n s v cowns limit q lt at rooted tell =
    subst (λ (m : ℕ). QueuesTell cowns limit (set S n (stands_at s v)) m (with_stand q n (stand_for v))) (sym (length-set S n (stands_at s v)))
    (tell-stands S (set S n (stands_at s v)) (grows-set S n (stands_at s v) lt (same-read S n s v lt at)) rooted cowns limit q tell n v lt
    (ap (λ (t : Place). t.stand) (get_or-set_same S n (stands_at s v) no_place lt))
    (λ m within ne. ap (λ (t : Place). t.stand) (get_or-set_other S n m (stands_at s v) no_place ne)))

-- the same, by the queues' own numbers
pub tell-own : (cowns limit : ℕ) (places : List Place) (entered : ℕ) (q : Queue) → QueuesTell cowns limit places entered q → QueuesTell q.cowns q.limit places entered q
tell-own cowns limit places entered q tell = record { cowns_are = refl; limit_is = refl; as_many = tell.as_many; each = tell.each }

pub tell-as : (cowns limit : ℕ) (places : List Place) (entered : ℕ) (p q : Queue) → p.cowns ≡ cowns → p.limit ≡ limit → QueuesTell p.cowns p.limit places entered q
    → QueuesTell cowns limit places entered q
tell-as cowns limit places entered p q same_cowns same_limit after = record {
  cowns_are = after.cowns_are ∙ same_cowns;
  limit_is = after.limit_is ∙ same_limit;
  as_many = after.as_many;
  each = after.each;
}
