-- Readiness, as the queues tell it.
use Rattle.std.proofs.Common.{◌≡◌, ℕ, zero, suc, ◌<◌, ◌⊎◌, inl, inr, Bool, true, ◌||◌, List, [], ◌∷◌, length, get_or, refl, sym, ◌∙◌, ap, arith, true≢false}
use Rattle.std.specs.Prelude.{map, IsTrue}
use Rattle.std.specs.List.{list_any}
use Rattle.std.proofs.lemmas.List.{length-map, get_or-map}
use Rattle.bl_order.specs.Claims.{NumberedClaim, numbered_claims, numbers_conflict, numbers_exclude}
use Rattle.bl_order.specs.Machine.{State, Phase, MayStart, Waiting, is_waiting, is_running, is_over, phase_at, past_at, has_ended, runs, Needs, Loses}
use Rattle.bl_order.specs.Order.{Task, conflict}
use Rattle.bl_queue.specs.Claims as queue
use Rattle.bl_queue.specs.Entries as queued
use Rattle.bl_replay.specs.Keeps.{KeepsAt}
use Rattle.bl_replay.specs.Kept.{entry_in, no_place, phase_in, phase_of, place_in, queue_claim, queue_claims, queued_as, stand_of}
use Rattle.bl_replay.specs.declared.place.Place.{Place}
use Rattle.bl_replay.specs.declared.place.Stand.{Stand}
use Rattle.bl_replay.specs.declared.place.Stand.TheVariants as stand
use Rattle.bl_replay.specs.declared.replayer.Replayer.{Replayer}
use Rattle.bl_replay.proofs.Moving.{many-places}

any-map : {A B : Type 0} (f : B → Bool) (g : A → B) (l : List A) → list_any f (map g l) ≡ list_any (λ a. f (g a)) l
any-map f g [] = refl
any-map f g (a ∷ l) = ap (λ b. f (g a) || b) (any-map f g l)

-- claims conflict as their numbers do
conflict-map : (a b : List NumberedClaim) → queue.conflict (map queue_claim a) (map queue_claim b) ≡ numbers_conflict a b
conflict-map [] b = refl
conflict-map (c ∷ a) b =
    ap (λ v. v || queue.conflict (map queue_claim a) (map queue_claim b)) (any-map (queue.excludes (queue_claim c)) queue_claim b)
    ∙ ap (λ v. list_any (numbers_exclude c) b || v) (conflict-map a b)

waits-as : (s : Stand) → queued.is_waiting (stand_of s) ≡ is_waiting (phase_of s)
waits-as stand.Waiting = refl
waits-as stand.Running = refl
waits-as stand.Ended = refl
waits-as stand.Lost = refl

ended-as : (s : Stand) → queued.is_ended (stand_of s) ≡ is_over (phase_of s)
ended-as stand.Waiting = refl
ended-as stand.Running = refl
ended-as stand.Ended = refl
ended-as stand.Lost = refl

started-as : (s : Stand) → queued.is_started (stand_of s) ≡ is_running (phase_of s)
started-as stand.Waiting = refl
started-as stand.Running = refl
started-as stand.Ended = refl
started-as stand.Lost = refl

running_within : (ps : List Phase) (n : ℕ) → is_running (get_or ps n Waiting) ≡ true → n < length ps
running_within ps n h = go ps n h
  where
    go : (qs : List Phase) (m : ℕ) → is_running (get_or qs m Waiting) ≡ true → m < length qs
    go [] m h = absurd (true≢false (sym h))
    go (p ∷ qs) zero h = omega arith
    go (p ∷ qs) (suc m) h = let lt : m < length qs = go qs m h in omega arith

module _ (x : State) (r : Replayer) (k : KeepsAt x r) where
  abbrev pub places : List Place
  places = r.places.items

  abbrev pub entries : List queued.Entry
  entries = r.queues.entries

  entries-are : entries ≡ map queued_as places
  entries-are = ap (λ q. q.entries) k.queues

  pub many-entries : length entries ≡ length places
  many-entries = ap length entries-are ∙ length-map places queued_as

  pub entry-read : (n : ℕ) → n < length places → queued.entry_at entries n ≡ queued_as (place_in places n)
  entry-read n lt = ap (λ l. queued.entry_at l n) entries-are ∙ get_or-map queued_as places n no_place queued.no_entry lt

  pub phase-read : (n : ℕ) → n < length places → phase_at x n ≡ phase_of (place_in places n).stand
  phase-read n lt = ap (λ (l : List Phase). get_or l n Waiting) k.phases ∙ get_or-map phase_in places n no_place Waiting lt

  waits-read : (n : ℕ) → n < length places → queued.is_waiting (queued.entry_at entries n).stand ≡ is_waiting (phase_at x n)
  waits-read n lt = ap (λ (e : queued.Entry). queued.is_waiting e.stand) (entry-read n lt) ∙ waits-as (place_in places n).stand ∙ ap is_waiting (sym (phase-read n lt))

  ended-read : (n : ℕ) → n < length places → queued.is_ended (queued.entry_at entries n).stand ≡ has_ended x n
  ended-read n lt = ap (λ (e : queued.Entry). queued.is_ended e.stand) (entry-read n lt) ∙ ended-as (place_in places n).stand ∙ ap is_over (sym (phase-read n lt))

  started-read : (n : ℕ) → n < length places → queued.is_started (queued.entry_at entries n).stand ≡ runs x n
  started-read n lt = ap (λ (e : queued.Entry). queued.is_started e.stand) (entry-read n lt) ∙ started-as (place_in places n).stand ∙ ap is_running (sym (phase-read n lt))

  claims-read : (n : ℕ) → n < length places → (queued.entry_at entries n).claims ≡ queue_claims (past_at x n).task
  claims-read n lt = ap (λ (e : queued.Entry). e.claims) (entry-read n lt) ∙ ap queue_claims (sym (k.tasks n lt))

  pub runs-within : (n : ℕ) → IsTrue (runs x n) → n < length places
  runs-within n h = omega (arith, running_within x.phases n h, ap length k.phases, length-map places phase_in)

  pub runs-queued : (n : ℕ) → IsTrue (runs x n) → queued.Runs entries n
  runs-queued n h =
      let there : n < length places = runs-within n h in
      record { there = omega (arith, there, many-entries); started = started-read n there ∙ h }

  module _ (law : (t u : Task) → conflict t u ≡ numbers_conflict (numbered_claims t) (numbered_claims u)) where
    conflict-read : (m n : ℕ) → m < length places → n < length places
        → queue.conflict (queued.entry_at entries m).claims (queued.entry_at entries n).claims ≡ conflict (past_at x m).task (past_at x n).task
    conflict-read m n lm ln =
        ap (λ c. queue.conflict c (queued.entry_at entries n).claims) (claims-read m lm)
        ∙ ap (queue.conflict (queue_claims (past_at x m).task)) (claims-read n ln)
        ∙ conflict-map (numbered_claims (past_at x m).task) (numbered_claims (past_at x n).task)
        ∙ sym (law (past_at x m).task (past_at x n).task)

    pub may-start : (n : ℕ) → queued.MayStart entries n → MayStart x n
    may-start n q =
        let there : n < length places = omega (arith, q.there, many-entries) in
        record {
          there = omega (arith, there, many-places x r k);
          waits = sym (waits-read n there) ∙ q.waits;
          clear = λ m lt c.
              let within : m < length places = omega (arith, lt, there) in
              sym (ended-read m within) ∙ q.clear m lt (conflict-read m n within there ∙ c);
        }

    pub may-queued : (n : ℕ) → MayStart x n → queued.MayStart entries n
    may-queued n may =
        let there : n < length places = omega (arith, may.there, many-places x r k) in
        record {
          there = omega (arith, there, many-entries);
          waits = waits-read n there ∙ may.waits;
          clear = λ m lt c.
              let within : m < length places = omega (arith, lt, there) in
              ended-read m within ∙ may.clear m lt (sym (conflict-read m n within there) ∙ c);
        }

    pub end-queued : (n : ℕ) → Needs x (Loses n) → queued.MayStart entries n ⊎ queued.Runs entries n
    end-queued n (inl h) = inr (runs-queued n h)
    end-queued n (inr may) = inl (may-queued n may)

  -- a place that an event ends is there
  pub lost-within : (n : ℕ) → Needs x (Loses n) → n < length places
  lost-within n (inl h) = runs-within n h
  lost-within n (inr may) = omega (arith, may.there, many-places x r k)

  -- so is one that the monitor was told
  pub told-within : (n : ℕ) → n < length r.answers.items → n < length places
  told-within n lt = omega (arith, lt, k.fed.many, k.fed.told.few, length-map places entry_in)
