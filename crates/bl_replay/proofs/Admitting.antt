-- A line enters.
use Rattle.std.proofs.Common.{◌≡◌, ℕ, zero, suc, ◌+◌, ◌-◌, ◌<◌, ◌≤◌, List, [], ◌∷◌, ◌++◌, length, get_or, set, refl, sym, ◌∙◌, ap, subst, arith, length-append, length-set}
use Rattle.std.specs.Prelude.{All, map}
use Rattle.std.proofs.Math.ListN.{get_or-append}
use Rattle.std.proofs.Math.Seq.{get_or-append_seam}
use Rattle.std.proofs.lemmas.List.{length-map, map-append, map-set, get_or-map}
use Rattle.std.proofs.lemmas.List.Elements.{All-push}
use Rattle.std.proofs.lemmas.List.Sums.{sum_by_push}
use Rattle.bl_policy.specs.declared.access.Access.{Access}
use Rattle.bl_work.specs.Statements.{Part, no_part}
use Rattle.bl_work.specs.declared.work.Work.{Work}
use Rattle.bl_work.specs.declared.work.Work.TheVariants as works
use Rattle.bl_setup.specs.Setup.{Setup}
use Rattle.bl_order.specs.Headline.{IsReached}
use Rattle.bl_order.specs.Known.{KnowsWork}
use Rattle.bl_order.specs.Machine.{State, Event, Phase, Admits, Needs, change, past_at, is_lost, session_at, no_session, entry_weight, weight_of}
use Rattle.bl_order.specs.Machine as machine
use Rattle.bl_order.specs.Order.{Entry, Task, accesses_of, unnamed}
use Rattle.bl_order.specs.Order as orders
use Rattle.bl_order.specs.Room.{IsBehaviourOrRule}
use Rattle.bl_order.specs.Past.{no_entry, task_of, earlier, first_task, child_task}
use Rattle.bl_queue.specs.Queues.{Queue}
use Rattle.bl_queue.specs.Entries as queued
use Rattle.bl_replay.specs.Keeps.{KeepsAt, session_in, setup_in}
use Rattle.bl_replay.specs.Kept.{KnowsPlace, entry_in, no_place, phase_in, place_in, queued_as, task_in}
use Rattle.bl_replay.specs.declared.place.Origin.TheVariants.{Line}
use Rattle.bl_replay.specs.declared.place.Place.{Place}
use Rattle.bl_replay.specs.declared.place.Stand.TheVariants.{Waiting}
use Rattle.bl_replay.specs.declared.replayer.Replayer.{Replayer}
use Rattle.bl_replay.specs.declared.replayer.Session.{Session}
use Rattle.bl_replay.proofs.Moving.{keeps-moved, many-places}
use Rattle.bl_replay.proofs.Standing.{All-set}

abbrev pub line_place : ℕ → Work → Place
line_place subject work = record { origin = Line subject; work = work; index = 0; stand = Waiting }

-- the documents that a task of a known work declares are known
pub known-accesses : (s : Setup) (w : Work) (i : ℕ) → KnowsWork s w → All (λ (a : Access). a.doc < length s.policy.documents) (accesses_of (child_task (first_task w) i))
known-accesses s (works.Behaviour script) i known = at script i known
  where
    none : (k : ℕ) (d : Access) → k < length (no_part).accesses → (get_or (no_part).accesses k d).doc < length s.policy.documents
    none k d lt = absurd (omega arith)

    at : (ps : List Part) (j : ℕ) → All (λ (p : Part). All (λ (a : Access). a.doc < length s.policy.documents) p.accesses) ps
        → All (λ (a : Access). a.doc < length s.policy.documents) (get_or ps j no_part).accesses
    at [] j all = none
    at (p ∷ ps) zero all = all 0 no_part (omega arith)
    at (p ∷ ps) (suc j) all = at ps j (λ k d lt. all (suc k) d (omega (arith, lt)))
known-accesses s (works.Rule rule) i known = λ k d lt. absurd (omega arith)

-- and so the queues have cowns for what it claims
pub known-cowns : (s : Setup) (w : Work) (i cowns : ℕ) → cowns ≡ length s.policy.documents + 1 → KnowsWork s w
    → All (λ (a : Access). a.doc < cowns - 1) (accesses_of (child_task (first_task w) i))
known-cowns s w i cowns is known = subst (λ (m : ℕ). All (λ (a : Access). a.doc < m) (accesses_of (child_task (first_task w) i))) (less (length s.policy.documents) cowns is) (known-accesses s w i known)
  where
    less : (a c : ℕ) → c ≡ a + 1 → a ≡ c - 1
    less a c q = omega (arith, q)

pub record Admitted (r d : Replayer) (i o subject : ℕ) (w : Work) : Type 0 where
  pub setup : setup_in d ≡ setup_in r
  pub limit : d.limit ≡ r.limit
  pub weight : d.weight ≡ r.weight + weight_of w
  pub marks : d.marks ≡ r.marks
  pub monitor : d.monitor ≡ r.monitor
  pub answers : d.answers ≡ r.answers
  pub sessions : d.sessions.items ≡ set r.sessions.items i (record { subject = subject; last = o })
  pub places : d.places.items ≡ r.places.items ++ line_place subject w ∷ []
  pub queues : d.queues ≡ record r.queues { entries = r.queues.entries ++ queued_as (line_place subject w) ∷ [] }

-- the row of a session
pub session-read : (x : State) (r : Replayer) → KeepsAt x r → (i : ℕ) (row : Session) → i < length x.sessions → row ≡ get_or r.sessions.items i row
    → (row.subject ≡ (session_at x i).subject) × (row.last ≡ (session_at x i).last)
session-read x r k i row lt at =
    let within : i < length r.sessions.items = omega (arith, lt, ap length k.sessions, length-map r.sessions.items session_in) in
    let is : session_at x i ≡ session_in row =
    ap (λ (l : List machine.Session). get_or l i no_session) k.sessions ∙ get_or-map session_in r.sessions.items i row no_session within ∙ ap session_in (sym at) in
    (sym (ap (λ (s : machine.Session). s.subject) is), sym (ap (λ (s : machine.Session). s.last) is))

-- it speaks for a subject of the setup
pub speaker-known : (x : State) (r : Replayer) → KeepsAt x r → (i : ℕ) (row : Session) → i < length x.sessions → row ≡ get_or r.sessions.items i row
    → row.subject < length x.setup.policy.subjects
speaker-known x r k i row lt at =
    let within : i < length r.sessions.items = omega (arith, lt, ap length k.sessions, length-map r.sessions.items session_in) in
    subst (λ (s : Session). s.subject < length x.setup.policy.subjects) (sym at) (k.speakers i row within)

child-first : (u : Work) → first_task u ≡ child_task (first_task u) 0
child-first (works.Behaviour script) = refl
child-first (works.Rule rule) = refl

module _ (x : State) (r : Replayer) (i o : ℕ) (w : Work) (k : KeepsAt x r) where
  -- the new place does what the line asks
  line-task : (past_at (change x (Admits i o w)) (length r.places.items)).task ≡ child_task (first_task w) 0
  line-task =
      ap (task_of (earlier (change x (Admits i o w)).setup (is_lost (change x (Admits i o w))) (change x (Admits i o w)).order (length r.places.items)))
      (ap (λ (m : ℕ). get_or (change x (Admits i o w)).order m no_entry) (sym (many-places x r k))
      ∙ get_or-append_seam x.order (orders.Line i o (session_at x i).subject w) [] no_entry)
      ∙ child-first w

  module _ (needs : Needs x (Admits i o w)) (next : (y : State) (f : Event) → IsReached y → Needs y f → IsReached (change y f)) where
    reached : IsReached (change x (Admits i o w))
    reached = next x (Admits i o w) k.reached needs

    longer : length (change x (Admits i o w)).order ≡ length r.places.items + 1
    longer =
        let more : length (change x (Admits i o w)).order ≡ length x.order + 1 = length-append x.order (orders.Line i o (session_at x i).subject w ∷ []) in
        omega (arith, more, many-places x r k)

    -- there is room for it
    pub has-room : ((y : State) → IsReached y → length y.order ≤ y.limit) → length r.places.items < x.limit
    has-room room = let within : length (change x (Admits i o w)).order ≤ x.limit = room (change x (Admits i o w)) reached in omega (arith, within, longer)

    -- and it does one of the behaviours of a script, or applies a rule
    pub is-task : ((y : State) (m : ℕ) → IsReached y → m < length y.order → IsBehaviourOrRule (past_at y m).task) → IsBehaviourOrRule (child_task (first_task w) 0)
    is-task tasks = subst IsBehaviourOrRule line-task (tasks (change x (Admits i o w)) (length r.places.items) reached (omega (arith, longer)))

module _ (x : State) (r d : Replayer) (i o subject : ℕ) (w : Work) (k : KeepsAt x r) (needs : Needs x (Admits i o w))
    (next : (y : State) (f : Event) → IsReached y → Needs y f → IsReached (change y f))
    (speaks : subject ≡ (session_at x i).subject) (known : subject < length x.setup.policy.subjects) (knows : KnowsWork x.setup w) (v : Admitted r d i o subject w) where
  sessions : (change x (Admits i o w)).sessions ≡ map session_in d.sessions.items
  sessions =
      ap (λ (l : List machine.Session). set l i (record { subject = (session_at x i).subject; last = o })) k.sessions
      ∙ ap (λ u. set (map session_in r.sessions.items) i (record { subject = u; last = o })) (sym speaks)
      ∙ sym (map-set session_in r.sessions.items i (record { subject = subject; last = o }))
      ∙ ap (map session_in) (sym v.sessions)

  entry : Entry
  entry = orders.Line i o (session_at x i).subject w

  order : map unnamed (x.order ++ orders.Line i o (session_at x i).subject w ∷ []) ≡ map entry_in d.places.items
  order =
      map-append unnamed x.order (orders.Line i o (session_at x i).subject w ∷ [])
      ∙ ap (λ l. l ++ orders.Line 0 0 (session_at x i).subject w ∷ []) k.order
      ∙ ap (λ u. map entry_in r.places.items ++ orders.Line 0 0 u w ∷ []) (sym speaks)
      ∙ sym (map-append entry_in r.places.items (line_place subject w ∷ []))
      ∙ ap (map entry_in) (sym v.places)

  new-place : (m : ℕ) → length r.places.items ≤ m → m < length d.places.items → m ≡ length r.places.items
  new-place m ge lt = omega (arith, ge, lt, ap length v.places, length-append r.places.items (line_place subject w ∷ []))

  task-last : (past_at (change x (Admits i o w)) (length r.places.items)).task ≡ task_in (place_in d.places.items (length r.places.items))
  task-last =
      line-task x r i o w k
      ∙ ap task_in (sym (ap (λ l. place_in l (length r.places.items)) v.places ∙ get_or-append_seam r.places.items (line_place subject w) [] no_place))

  new : (m : ℕ) → length r.places.items ≤ m → m < length d.places.items → (past_at (change x (Admits i o w)) m).task ≡ task_in (place_in d.places.items m)
  new m ge lt = subst (λ (j : ℕ). (past_at (change x (Admits i o w)) j).task ≡ task_in (place_in d.places.items j)) (sym (new-place m ge lt)) task-last

  pub keeps-admitted : KeepsAt (change x (Admits i o w)) d
  keeps-admitted = keeps-moved x (Admits i o w) r d k needs next (record {
    setup_stays = refl;
    limit_stays = refl;
    setup = v.setup;
    limit = v.limit;
    marks = v.marks;
    monitor = v.monitor;
    answers = v.answers;
    sessions = sessions;
    few = omega (arith, k.few, length-set x.sessions i (record { subject = (session_at x i).subject; last = o }));
    speakers = subst (All (λ (s : Session). s.subject < length x.setup.policy.subjects)) (sym v.sessions)
        (All-set (λ (s : Session). s.subject < length x.setup.policy.subjects) r.sessions.items i (record { subject = subject; last = o }) k.speakers known);
    order = order;
    phases = ap (λ (l : List Phase). l ++ machine.Waiting ∷ []) k.phases ∙ sym (map-append phase_in r.places.items (line_place subject w ∷ [])) ∙ ap (map phase_in) (sym v.places);
    weight = v.weight ∙ ap (λ n. n + weight_of w) k.weight ∙ sym (sum_by_push entry_weight x.order (orders.Line i o (session_at x i).subject w));
    more = entry_in (line_place subject w) ∷ [];
    entries = ap (map entry_in) v.places ∙ map-append entry_in r.places.items (line_place subject w ∷ []);
    old = λ n lt. ap task_in (ap (λ l. place_in l n) v.places ∙ get_or-append r.places.items (line_place subject w ∷ []) no_place n lt);
    new = new;
    known = subst (All (KnowsPlace x.setup)) (sym v.places) (All-push (KnowsPlace x.setup) r.places.items (line_place subject w) k.known (record { work = knows; origin = known }));
    queues = v.queues ∙ ap (λ (q : Queue). record q { entries = q.entries ++ queued_as (line_place subject w) ∷ [] }) k.queues
        ∙ ap (λ (l : List queued.Entry). record { cowns = length x.setup.policy.documents + 1; limit = x.limit; entries = l }) (sym (map-append queued_as r.places.items (line_place subject w ∷ [])) ∙ ap (map queued_as) (sym v.places));
  })
