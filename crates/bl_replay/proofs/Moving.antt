-- What is kept stays so with each event.
use Rattle.std.proofs.Common.{◌≡◌, ℕ, ◌+◌, ◌<◌, ◌≤◌, ◌⊎◌, inl, inr, Bool, List, ◌++◌, length, sym, ◌∙◌, ap, subst, arith, length-append}
use Rattle.std.specs.Prelude.{All, map, sum_by}
use Rattle.std.proofs.lemmas.List.{length-map, take-append-le}
use Rattle.bl_work.specs.declared.answer.Answer.{Answer}
use Rattle.bl_setup.specs.Agreement.{Agree}
use Rattle.bl_setup.specs.Setup.{Setup}
use Rattle.bl_order.specs.Headline.{IsReached}
use Rattle.bl_order.specs.Machine.{State, Event, Needs, change, past_at, entry_weight}
use Rattle.bl_order.specs.Order.{Entry, unnamed}
use Rattle.bl_monitor.specs.Heard.{Heard}
use Rattle.bl_replay.specs.Fed.{IsFed}
use Rattle.bl_replay.specs.Keeps.{KeepsAt, session_in, setup_in}
use Rattle.bl_replay.specs.Kept.{KnowsPlace, entry_in, phase_in, place_in, queued_as, task_in}
use Rattle.bl_replay.specs.Marks.{lost_later}
use Rattle.bl_replay.specs.declared.replayer.Replayer.{Replayer}
use Rattle.bl_replay.specs.declared.replayer.Session.{Session}
use Rattle.bl_replay.proofs.Speaking.{task-stays}

-- more entries leave what the monitor was told
pub fed-grown : (s : Setup) (marks : ℕ → Bool) (order more : List Entry) (h : Heard) (answers : List Answer)
    → IsFed s marks order h answers → IsFed s marks (order ++ more) h answers
fed-grown s marks order more h answers fed = record {
  told = record {
    setup_is = fed.told.setup_is;
    told = fed.told.told ∙ sym (take-append-le (length h.order) order more fed.told.few);
    marked = fed.told.marked;
    few = omega (arith, fed.told.few, length-append order more);
  };
  lost = fed.lost;
  many = fed.many;
  are = fed.are;
  known = fed.known;
}

below_or_not : (a b : ℕ) → (a < b) ⊎ (b ≤ a)
below_or_not a b = grind arith

pub many-places : (x : State) (r : Replayer) → KeepsAt x r → length x.order ≡ length r.places.items
many-places x r k = sym (length-map x.order unnamed) ∙ ap length k.order ∙ length-map r.places.items entry_in

-- what an event makes of what is kept
pub record Moved (x : State) (e : Event) (r d : Replayer) : Type 0 where
  pub setup_stays : (change x e).setup ≡ x.setup
  pub limit_stays : (change x e).limit ≡ x.limit
  pub setup : setup_in d ≡ setup_in r
  pub limit : d.limit ≡ r.limit
  pub marks : d.marks ≡ r.marks
  pub monitor : d.monitor ≡ r.monitor
  pub answers : d.answers ≡ r.answers
  pub sessions : (change x e).sessions ≡ map session_in d.sessions.items
  pub few : length (change x e).sessions ≤ 1000
  pub speakers : All (λ (s : Session). s.subject < length x.setup.policy.subjects) d.sessions.items
  pub order : map unnamed (change x e).order ≡ map entry_in d.places.items
  pub phases : (change x e).phases ≡ map phase_in d.places.items
  pub weight : d.weight ≡ sum_by entry_weight (change x e).order
  pub more : List Entry
  pub entries : map entry_in d.places.items ≡ map entry_in r.places.items ++ more
  pub old : (n : ℕ) → n < length r.places.items → task_in (place_in d.places.items n) ≡ task_in (place_in r.places.items n)
  pub new : (n : ℕ) → length r.places.items ≤ n → n < length d.places.items → (past_at (change x e) n).task ≡ task_in (place_in d.places.items n)
  pub known : All (KnowsPlace x.setup) d.places.items
  pub queues : d.queues ≡ record { cowns = length x.setup.policy.documents + 1; limit = x.limit; entries = map queued_as d.places.items }

pub keeps-moved : (x : State) (e : Event) (r d : Replayer) → KeepsAt x r → Needs x e → ((y : State) (f : Event) → IsReached y → Needs y f → IsReached (change y f))
    → Moved x e r d → KeepsAt (change x e) d
keeps-moved x e r d k needs next v = record {
  reached = next x e k.reached needs;
  agree = subst Agree (sym v.setup_stays) k.agree;
  setup = v.setup ∙ k.setup ∙ sym v.setup_stays;
  limit = v.limit ∙ k.limit ∙ sym v.limit_stays;
  low = omega (arith, k.low, v.limit_stays);
  sessions = v.sessions;
  few = v.few;
  speakers = subst (λ (s : Setup). All (λ (r : Session). r.subject < length s.policy.subjects) d.sessions.items) (sym v.setup_stays) v.speakers;
  order = v.order;
  phases = v.phases;
  weight = v.weight;
  tasks = λ n lt. tasks n lt (below_or_not n (length r.places.items));
  known = subst (λ (s : Setup). All (KnowsPlace s) d.places.items) (sym v.setup_stays) v.known;
  queues = v.queues
      ∙ ap (λ (s : Setup). record { cowns = length s.policy.documents + 1; limit = x.limit; entries = map queued_as d.places.items }) (sym v.setup_stays)
      ∙ ap (λ l. record { cowns = length (change x e).setup.policy.documents + 1; limit = l; entries = map queued_as d.places.items }) (sym v.limit_stays);
  fed = subst (λ (s : Setup). IsFed s (lost_later d.marks.items) (map entry_in d.places.items) d.monitor d.answers.items) (sym v.setup_stays)
      (subst (λ (m : ℕ → Bool). IsFed x.setup m (map entry_in d.places.items) d.monitor d.answers.items) (sym (ap (λ m. lost_later m.items) v.marks))
      (subst (λ (h : Heard). IsFed x.setup (lost_later r.marks.items) (map entry_in d.places.items) h d.answers.items) (sym v.monitor)
      (subst (λ (a : List Answer). IsFed x.setup (lost_later r.marks.items) (map entry_in d.places.items) r.monitor a) (sym (ap (λ a. a.items) v.answers))
      (subst (λ (o : List Entry). IsFed x.setup (lost_later r.marks.items) o r.monitor r.answers.items) (sym v.entries)
      (fed-grown x.setup (lost_later r.marks.items) (map entry_in r.places.items) v.more r.monitor r.answers.items k.fed)))));
}
  where
    tasks : (n : ℕ) → n < length d.places.items → (n < length r.places.items) ⊎ (length r.places.items ≤ n) → (past_at (change x e) n).task ≡ task_in (place_in d.places.items n)
    tasks n lt (inl below) = task-stays x e k.reached needs n (omega (arith, below, many-places x r k)) ∙ k.tasks n below ∙ sym (v.old n below)
    tasks n lt (inr ge) = v.new n ge lt
