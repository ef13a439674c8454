-- One place stands otherwise.
use Rattle.std.proofs.Common.{◌≡◌, ◌≢◌, ℕ, ◌+◌, ◌<◌, ◌⊎◌, inl, inr, List, [], ◌∷◌, ◌++◌, length, get_or, set, refl, sym, ◌∙◌, ap, subst, arith, length-set, get_or-set_same, get_or-set_other}
use Rattle.std.specs.Prelude.{All, map, sum_by}
use Rattle.std.proofs.Math.Seq.{map-set_same}
use Rattle.std.proofs.lemmas.List.{map-set, get_or-map, get_or_read}
use Rattle.bl_order.specs.Headline.{IsReached}
use Rattle.bl_order.specs.Machine.{State, Event, Needs, Phase, change, entry_weight}
use Rattle.bl_order.specs.Order.{unnamed}
use Rattle.bl_queue.specs.Entries as queued
use Rattle.bl_queue.specs.Queues as queues
use Rattle.bl_replay.specs.Keeps.{KeepsAt, session_in, setup_in}
use Rattle.bl_replay.specs.Kept.{KnowsPlace, entry_by, entry_in, no_place, phase_in, phase_of, place_in, queue_claims, queued_as, stand_of, task_in}
use Rattle.bl_replay.specs.declared.place.Place.{Place}
use Rattle.bl_replay.specs.declared.place.Stand.{Stand}
use Rattle.bl_replay.specs.declared.replayer.Replayer.{Replayer}
use Rattle.bl_replay.specs.declared.replayer.Session.{Session}
use Rattle.bl_replay.proofs.Moving.{keeps-moved}

abbrev pub standing : Place → Stand → Place
standing p s = record { origin = p.origin; work = p.work; index = p.index; stand = s }

append-nil : {X : Type 0} (xs : List X) → xs ≡ xs ++ []
append-nil [] = refl
append-nil (x ∷ xs) = ap (λ l. x ∷ l) (append-nil xs)

equal_or_not : (m n : ℕ) → (m ≡ n) ⊎ (m ≢ n)
equal_or_not m n = grind arith

pub All-set : {X : Type 0} (P : X → Type 0) (xs : List X) (i : ℕ) (x : X) → All P xs → P x → (k : ℕ) (d : X) → k < length (set xs i x) → P (get_or (set xs i x) k d)
All-set P xs i x all is k d lt = go (equal_or_not k i)
  where
    before : k < length xs
    before = omega (arith, length-set xs i x, lt)

    go : (k ≡ i) ⊎ (k ≢ i) → P (get_or (set xs i x) k d)
    go (inl e) = subst P (sym (ap (λ j. get_or (set xs i x) j d) e ∙ get_or-set_same xs i x d (subst (λ (j : ℕ). j < length xs) e before))) is
    go (inr ne) = subst P (sym (get_or-set_other xs i k x d ne)) (all k d before)

module _ (P : List Place) (n : ℕ) (p : Place) (s : Stand) (lt : n < length P) (at : p ≡ get_or P n p) where
  pub here : p ≡ place_in P n
  here = get_or_read P n p lt at no_place

  pub entries-set : map entry_in (set P n (standing p s)) ≡ map entry_in P
  entries-set = map-set_same entry_in P n (standing p s) no_place (ap (λ (q : Place). entry_by q.work q.origin) here)

  pub phases-set : map phase_in (set P n (standing p s)) ≡ set (map phase_in P) n (phase_of s)
  phases-set = map-set phase_in P n (standing p s)

  pub task-set : (m : ℕ) → task_in (place_in (set P n (standing p s)) m) ≡ task_in (place_in P m)
  task-set m = go (equal_or_not m n)
    where
      go : (m ≡ n) ⊎ (m ≢ n) → task_in (get_or (set P n (standing p s)) m no_place) ≡ task_in (get_or P m no_place)
      go (inl e) =
          ap (λ j. task_in (get_or (set P n (standing p s)) j no_place)) e
          ∙ ap task_in (get_or-set_same P n (standing p s) no_place lt)
          ∙ ap task_in here ∙ ap (λ j. task_in (get_or P j no_place)) (sym e)
      go (inr ne) = ap task_in (get_or-set_other P n m (standing p s) no_place ne)

  pub queued-set : set (map queued_as P) n (queued.standing (queued.entry_at (map queued_as P) n) (stand_of s)) ≡ map queued_as (set P n (standing p s))
  queued-set =
      ap (λ (e : queued.Entry). set (map queued_as P) n (queued.standing e (stand_of s))) (get_or-map queued_as P n no_place queued.no_entry lt)
      ∙ ap (λ (q : Place). set (map queued_as P) n (record { claims = queue_claims (task_in q); stand = stand_of s })) (sym here)
      ∙ sym (map-set queued_as P n (standing p s))

-- what is kept after
pub record Stood (r d : Replayer) (n : ℕ) (p : Place) (s : Stand) : Type 0 where
  pub setup : setup_in d ≡ setup_in r
  pub limit : d.limit ≡ r.limit
  pub weight : d.weight ≡ r.weight
  pub marks : d.marks ≡ r.marks
  pub monitor : d.monitor ≡ r.monitor
  pub answers : d.answers ≡ r.answers
  pub sessions : d.sessions ≡ r.sessions
  pub places : d.places.items ≡ set r.places.items n (standing p s)
  pub queues : d.queues ≡ queues.with_stand r.queues n (stand_of s)

-- what an event changes that leaves all but the phase of one place
pub record Stands (x : State) (e : Event) (n : ℕ) (phase : Phase) : Type 0 where
  pub setup : (change x e).setup ≡ x.setup
  pub limit : (change x e).limit ≡ x.limit
  pub sessions : (change x e).sessions ≡ x.sessions
  pub order : (change x e).order ≡ x.order
  pub phases : (change x e).phases ≡ set x.phases n phase

pub keeps-stood : (x : State) (e : Event) (r d : Replayer) (n : ℕ) (p : Place) (s : Stand) → KeepsAt x r → Needs x e
    → ((y : State) (f : Event) → IsReached y → Needs y f → IsReached (change y f)) → Stands x e n (phase_of s)
    → n < length r.places.items → p ≡ get_or r.places.items n p → Stood r d n p s → KeepsAt (change x e) d
keeps-stood x e r d n p s k needs next is lt at v = keeps-moved x e r d k needs next (record {
  setup_stays = is.setup;
  limit_stays = is.limit;
  setup = v.setup;
  limit = v.limit;
  marks = v.marks;
  monitor = v.monitor;
  answers = v.answers;
  sessions = is.sessions ∙ k.sessions ∙ ap (λ l. map session_in l.items) (sym v.sessions);
  few = omega (arith, k.few, ap length is.sessions);
  speakers = subst (λ l. All (λ (s : Session). s.subject < length x.setup.policy.subjects) l.items) (sym v.sessions) k.speakers;
  order = ap (map unnamed) is.order ∙ k.order ∙ sym (entries-set r.places.items n p s lt at) ∙ ap (map entry_in) (sym v.places);
  phases = is.phases ∙ ap (λ l. set l n (phase_of s)) k.phases ∙ sym (phases-set r.places.items n p s lt at) ∙ ap (map phase_in) (sym v.places);
  weight = v.weight ∙ k.weight ∙ ap (sum_by entry_weight) (sym is.order);
  more = [];
  entries = ap (map entry_in) v.places ∙ entries-set r.places.items n p s lt at ∙ append-nil (map entry_in r.places.items);
  old = λ m l. ap (λ q. task_in (place_in q m)) v.places ∙ task-set r.places.items n p s lt at m;
  new = λ m ge l. absurd (omega (arith, ge, l, ap length v.places, length-set r.places.items n (standing p s)));
  known = subst (All (KnowsPlace x.setup)) (sym v.places) (All-set (KnowsPlace x.setup) r.places.items n (standing p s) k.known
      (subst (λ (q : Place). KnowsPlace x.setup (standing q s)) (sym (here r.places.items n p s lt at))
      (let q : KnowsPlace x.setup (place_in r.places.items n) = k.known n no_place lt in record { work = q.work; origin = q.origin })));
  queues = v.queues ∙ ap (λ q. queues.with_stand q n (stand_of s)) k.queues
      ∙ ap (λ l. record { cowns = length x.setup.policy.documents + 1; limit = x.limit; entries = l }) (queued-set r.places.items n p s lt at ∙ ap (map queued_as) (sym v.places));
})
