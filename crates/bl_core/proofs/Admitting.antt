-- A session is opened, and a line enters.
use Rattle.std.proofs.Common.{◌≡◌, ◌≢◌, ℕ, zero, suc, ◌<◌, ◌≤◌, ◌+◌, ◌⊎◌, inl, inr, true, List, [], ◌∷◌, ◌++◌, length, get_or, set, refl, ap, sym, ◌∙◌, subst, arith, length-append, length-set, get_or-set_same, get_or-set_other}
use Rattle.std.specs.Prelude.{map, All}
use Rattle.std.specs.Vec.{vec_capacity}
use Rattle.std.proofs.Math.ListN.{get_or-append}
use Rattle.std.proofs.Math.Seq.{get_or-append_seam}
use Rattle.std.proofs.lemmas.List.{length-map, map-append, map-set, get_or-map}
use Rattle.std.proofs.lemmas.List.Sums.{sum_by_push}
use Rattle.bl_work.specs.declared.work.Work.{Work}
use Rattle.bl_policy.specs.Policy.{SecurityPolicy, lowest}
use Rattle.bl_setup.specs.Setup.{Setup}
use Rattle.bl_setup.specs.declared.version.Version.{Version}
use Rattle.bl_setup.specs.declared.version.Version.TheVariants.{One, Two}
use Rattle.bl_order.specs.Headline.{IsReached}
use Rattle.bl_order.specs.Known.{KnowsWork}
use Rattle.bl_order.specs.Room.{IsBehaviourOrRule}
use Rattle.bl_order.specs.Order.{accesses_of, is_altered}
use Rattle.bl_order.specs.Order as orders
use Rattle.bl_order.specs.Past.{Past, no_entry, subject_of, carried_of, task_of, earlier, first_task, child_task}
use Rattle.bl_order.specs.Machine.{State, Session, Opens, Admits, Needs, change, past_at, runs, is_lost, is_running, session_at, no_session, entry_weight, weight_of, Waiting}
use Rattle.bl_order.proofs.Sound.{IsSound}
use Rattle.bl_order.proofs.Reached.{sound-reached, reached-next}
use Rattle.bl_order.proofs.Trails.{within, past-admitted, phases-admitted}
use Rattle.bl_order.proofs.Present.{policy_now-admitted, content_now-admitted}
use Rattle.bl_place.specs.Places.{no_place, place_in, work_of, work_in, entry_of, phase_of, HasBehaviour}
use Rattle.bl_place.specs.Queueing.{MayEnter, QueuesTell, stand_for}
use Rattle.bl_core.specs.View.{state_of}
use Rattle.bl_core.specs.Keeps.{Keeps, Tells, IsAway, AreShelved}
use Rattle.bl_place.specs.declared.place.Place.{Place}
use Rattle.bl_place.specs.declared.place.Descent.TheVariants.{Line}
use Rattle.bl_place.specs.declared.place.Stand.TheVariants as stands
use Rattle.bl_work.specs.declared.work.Work.TheVariants as works
use Rattle.bl_core.specs.declared.session.Session.{Session as Row}
use Rattle.bl_core.specs.declared.machine.Core.TheInside.{Inside}
use Rattle.bl_core.proofs.Grown.{Grows, grows-self, grows-append, equal_or_not}
use Rattle.bl_core.proofs.Views.{length-order}
use Rattle.bl_core.proofs.Queueing.{claims-right, tell-grown, tell-own}
use Rattle.bl_core.proofs.Moved.{kept-moved}

abbrev row_value : Row → Session
row_value s = record { subject = s.subject; last = s.last }

-- ---- a session

pub record Opened (c d : Inside) (subject : ℕ) : Type 0 where
  pub setup : d.setup ≡ c.setup
  pub limit : d.limit ≡ c.limit
  pub weight : d.weight ≡ c.weight
  pub sessions : d.sessions.items ≡ c.sessions.items ++ record { subject = subject; last = 0 } ∷ []
  pub rooms : vec_capacity d.sessions ≡ vec_capacity c.sessions
  pub places : d.places ≡ c.places
  pub queues : d.queues ≡ c.queues
  pub policy : d.policy ≡ c.policy
  pub shelves : d.shelves ≡ c.shelves

All-push : {X : Type 0} (P : X → Type 0) (xs : List X) (x : X) → All P xs → P x → (i : ℕ) (d : X) → i < length (xs ++ x ∷ []) → P (get_or (xs ++ x ∷ []) i d)
All-push P [] x all is zero d lt = is
All-push P [] x all is (suc i) d lt = absurd (omega arith)
All-push P (y ∷ xs) x all is zero d lt = all 0 y (omega arith)
All-push P (y ∷ xs) x all is (suc i) d lt = All-push P xs x (λ j b l. all (suc j) b (omega arith)) is i d (omega (arith, lt))

module _ (c d : Inside) (subject : ℕ) (v : Opened c d subject) where
  pub state-opened : state_of d ≡ change (state_of c) (Opens subject)
  state-opened = λ j. record {
    setup = v.setup j;
    limit = v.limit j;
    sessions = rows j;
    order = map entry_of (ap (λ p. p.items) v.places j);
    phases = map (λ (p : Place). phase_of p.stand) (ap (λ p. p.items) v.places j);
  }
    where
      rows : map row_value d.sessions.items ≡ map row_value c.sessions.items ++ record { subject = subject; last = 0 } ∷ []
      rows = ap (map row_value) v.sessions ∙ map-append row_value c.sessions.items (record { subject = subject; last = 0 } ∷ [])

  pub kept-opened : Keeps c → Needs (state_of c) (Opens subject) → Keeps d
  kept-opened k needs =
      kept-moved c d (Opens subject) k needs (record {
        view = state-opened;
        setup = v.setup;
        grows = subst (λ l. Grows c.places.items l) (sym places) (grows-self c.places.items);
        stands = λ m lt. inl (ap (λ (l : List Place). (place_in l m).stand) places);
        new = λ m ge lt. absurd (omega (arith, ge, lt, ap length places));
        policy = v.policy ∙ k.policy;
        subjects = ap (λ (p : SecurityPolicy). length p.subjects) v.policy;
        documents = ap (λ (p : SecurityPolicy). length p.documents) v.policy;
        speakers = subst (λ (l : List Row). All (λ (s : Row). s.subject < length c.setup.policy.subjects) l) (sym v.sessions)
            (All-push (λ (s : Row). s.subject < length c.setup.policy.subjects) c.sessions.items (record { subject = subject; last = 0 }) k.speakers needs.0);
        as_many = ap (λ h. length h.items) v.shelves;
        shelved = subst (AreShelved (change (state_of c) (Opens subject))) (sym (ap (λ h. h.items) v.shelves))
            (record { contents = k.shelved.contents; away = k.shelved.away; home = k.shelved.home });
        weight = v.weight ∙ k.weight;
        queued = subst (λ (s : Setup). QueuesTell (length s.policy.documents + 1) d.limit d.places.items (length d.places.items) d.queues) (sym v.setup)
            (subst (λ (l : ℕ). QueuesTell (length c.setup.policy.documents + 1) l d.places.items (length d.places.items) d.queues) (sym v.limit)
            (subst (λ (l : List Place). QueuesTell (length c.setup.policy.documents + 1) c.limit l (length l) d.queues) (sym places)
            (subst (QueuesTell (length c.setup.policy.documents + 1) c.limit c.places.items (length c.places.items)) (sym v.queues) k.queued)));
        limit = v.limit;
        capacity = ap (λ p. vec_capacity p) v.places;
        rooms = v.rooms;
      })
    where
      places : d.places.items ≡ c.places.items
      places = ap (λ p. p.items) v.places

-- ---- a line
-- ---- a line

abbrev pub new_place : ℕ → ℕ → ℕ → ℕ → Work → Place
new_place n session ordinal subject work = record { descent = Line session ordinal work; root = n; index = 0; subject = subject; carried = lowest; stand = stands.Waiting }

pub record Admitted (c d : Inside) (i o subject : ℕ) (w : Work) : Type 0 where
  pub setup : d.setup ≡ c.setup
  pub limit : d.limit ≡ c.limit
  pub weight : d.weight ≡ c.weight + weight_of w
  pub sessions : d.sessions.items ≡ set c.sessions.items i (record { subject = subject; last = o })
  pub rooms : vec_capacity d.sessions ≡ vec_capacity c.sessions
  pub places : d.places.items ≡ c.places.items ++ new_place (length c.places.items) i o subject w ∷ []
  pub capacity : vec_capacity d.places ≡ vec_capacity c.places
  pub queued : QueuesTell (length d.setup.policy.documents + 1) d.limit d.places.items (length d.places.items) d.queues
  pub policy : d.policy ≡ c.policy
  pub shelves : d.shelves ≡ c.shelves

All-set : {X : Type 0} (P : X → Type 0) (xs : List X) (i : ℕ) (x : X) → All P xs → P x → (k : ℕ) (d : X) → k < length (set xs i x) → P (get_or (set xs i x) k d)
All-set P xs i x all is k d lt = go (equal_or_not k i)
  where
    before : k < length xs
    before = omega (arith, length-set xs i x, lt)

    go : (k ≡ i) ⊎ (k ≢ i) → P (get_or (set xs i x) k d)
    go (inl e) = subst P (sym (ap (λ j. get_or (set xs i x) j d) e ∙ get_or-set_same xs i x d (subst (λ (j : ℕ). j < length xs) e before))) is
    go (inr ne) = subst P (sym (get_or-set_other xs i k x d ne)) (all k d before)

-- the new place
module _ (c : Inside) (i o subject : ℕ) (w : Work) (speaks : subject ≡ (session_at (state_of c) i).subject)
    (k : Keeps c) (needs : Needs (state_of c) (Admits i o w)) (known : subject < length c.setup.policy.subjects) (knows : KnowsWork c.setup w) (first : HasBehaviour w 0) where
  new_at : get_or (c.places.items ++ new_place (length c.places.items) i o subject w ∷ []) (length c.places.items) no_place ≡ new_place (length c.places.items) i o subject w
  new_at = get_or-append_seam c.places.items (new_place (length c.places.items) i o subject w) [] no_place

  work_new : work_in (c.places.items ++ new_place (length c.places.items) i o subject w ∷ []) (length c.places.items) ≡ w
  work_new =
      ap (λ (s : Place). work_of (get_or (c.places.items ++ new_place (length c.places.items) i o subject w ∷ []) s.root no_place).descent) new_at
      ∙ ap (λ (s : Place). work_of s.descent) new_at

  entry_new : get_or (change (state_of c) (Admits i o w)).order (length c.places.items) no_entry ≡ orders.Line i o (session_at (state_of c) i).subject w
  entry_new =
      ap (λ (m : ℕ). get_or (change (state_of c) (Admits i o w)).order m no_entry) (sym (length-order c))
      ∙ get_or-append_seam (state_of c).order (orders.Line i o (session_at (state_of c) i).subject w) [] no_entry

  pub tells_new : Tells c.setup (c.places.items ++ new_place (length c.places.items) i o subject w ∷ []) (length c.places.items) (past_at (change (state_of c) (Admits i o w)) (length c.places.items))
  tells_new = record {
    task =
        ap (task_of (earlier (change (state_of c) (Admits i o w)).setup (is_lost (change (state_of c) (Admits i o w))) (change (state_of c) (Admits i o w)).order (length c.places.items))) entry_new
        ∙ child_first w
        ∙ ap (λ (u : Work). child_task (first_task u) 0) (sym work_new)
        ∙ ap (λ (s : Place). child_task (first_task (work_in (c.places.items ++ new_place (length c.places.items) i o subject w ∷ []) (length c.places.items))) s.index) (sym new_at);
    subject =
        ap (subject_of (earlier (change (state_of c) (Admits i o w)).setup (is_lost (change (state_of c) (Admits i o w))) (change (state_of c) (Admits i o w)).order (length c.places.items))) entry_new
        ∙ sym speaks ∙ ap (λ (s : Place). s.subject) (sym new_at);
    carried =
        ap (carried_of c.setup.version (earlier (change (state_of c) (Admits i o w)).setup (is_lost (change (state_of c) (Admits i o w))) (change (state_of c) (Admits i o w)).order (length c.places.items))) entry_new
        ∙ carries_nothing c.setup.version
        ∙ ap (λ (s : Place). s.carried) (sym new_at);
    answer = λ a e. let f : stands.Waiting ≡ stands.Ended a = ap (λ (s : Place). s.stand) (sym new_at) ∙ e in absurd (cc);
    root = subst (λ (s : Place). s.root < length (c.places.items ++ new_place (length c.places.items) i o subject w ∷ [])) (sym new_at)
        (omega (arith, length-append c.places.items (new_place (length c.places.items) i o subject w ∷ [])));
    behaviour = subst (λ (u : Work). HasBehaviour u (get_or (c.places.items ++ new_place (length c.places.items) i o subject w ∷ []) (length c.places.items) no_place).index) (sym work_new)
        (subst (λ (s : Place). HasBehaviour w s.index) (sym new_at) first);
    speaks = subst (λ (s : Place). s.subject < length c.setup.policy.subjects) (sym new_at) known;
    knows = subst (KnowsWork c.setup) (sym work_new) knows;
  }
    where
      child_first : (u : Work) → first_task u ≡ child_task (first_task u) 0
      child_first (works.Behaviour script) = refl
      child_first (works.Rule rule) = refl

      carries_nothing : (v : Version) → carried_of v (earlier (change (state_of c) (Admits i o w)).setup (is_lost (change (state_of c) (Admits i o w))) (change (state_of c) (Admits i o w)).order (length c.places.items))
          (orders.Line i o (session_at (state_of c) i).subject w) ≡ lowest
      carries_nothing One = refl
      carries_nothing Two = refl

  -- may enter the queues
  pub enters_new : ((x : State) (m : ℕ) → IsReached x → m < length x.order → IsBehaviourOrRule (past_at x m).task)
      → MayEnter (length c.setup.policy.documents + 1) (c.places.items ++ new_place (length c.places.items) i o subject w ∷ []) (length c.places.items)
  enters_new law = record {
    task = tells_new.behaviour;
    claims = claims-right c.setup (c.places.items ++ new_place (length c.places.items) i o subject w ∷ []) (length c.places.items)
        (past_at (change (state_of c) (Admits i o w)) (length c.places.items)) tells_new
        (subst IsBehaviourOrRule tells_new.task
        (law (change (state_of c) (Admits i o w)) (length c.places.items) (reached-next (state_of c) (Admits i o w) k.reached needs)
        (omega (arith, length-order c, length-append (state_of c).order (orders.Line i o (session_at (state_of c) i).subject w ∷ [])))));
    waits = ap (λ (s : Place). stand_for s.stand) new_at;
  }

  -- the queues tell of the places before it
  pub tells_before : QueuesTell c.queues.cowns c.queues.limit (c.places.items ++ new_place (length c.places.items) i o subject w ∷ []) (length c.places.items) c.queues
  tells_before =
      tell-own (length c.setup.policy.documents + 1) c.limit (c.places.items ++ new_place (length c.places.items) i o subject w ∷ []) (length c.places.items) c.queues
      (tell-grown c.places.items (c.places.items ++ new_place (length c.places.items) i o subject w ∷ []) (grows-append c.places.items (new_place (length c.places.items) i o subject w ∷ []))
      (λ m lt. (k.told m lt).root) (length c.setup.policy.documents + 1) c.limit c.queues k.queued
      (λ m lt. ap (λ (s : Place). s.stand) (get_or-append c.places.items (new_place (length c.places.items) i o subject w ∷ []) no_place m lt)))

  -- and it may enter behind them
  pub enters_last : ((x : State) (m : ℕ) → IsReached x → m < length x.order → IsBehaviourOrRule (past_at x m).task) → (m : ℕ) → length c.places.items ≤ m
      → m < length (c.places.items ++ new_place (length c.places.items) i o subject w ∷ [])
      → MayEnter c.queues.cowns (c.places.items ++ new_place (length c.places.items) i o subject w ∷ []) m
  enters_last law m ge lt =
      subst (λ (j : ℕ). MayEnter j (c.places.items ++ new_place (length c.places.items) i o subject w ∷ []) m) (sym k.queued.cowns_are)
      (subst (MayEnter (length c.setup.policy.documents + 1) (c.places.items ++ new_place (length c.places.items) i o subject w ∷ []))
      (omega (arith, ge, lt, length-append c.places.items (new_place (length c.places.items) i o subject w ∷ []))) (enters_new law))

module _ (c d : Inside) (i o subject : ℕ) (w : Work) (v : Admitted c d i o subject w) (speaks : subject ≡ (session_at (state_of c) i).subject) where
  pub state-admitted : state_of d ≡ change (state_of c) (Admits i o w)
  state-admitted = λ j. record {
    setup = v.setup j;
    limit = v.limit j;
    sessions = rows j;
    order = order j;
    phases = phases j;
  }
    where
      rows : map row_value d.sessions.items ≡ set (state_of c).sessions i (record { subject = (session_at (state_of c) i).subject; last = o })
      rows =
          ap (map row_value) v.sessions
          ∙ map-set row_value c.sessions.items i (record { subject = subject; last = o })
          ∙ ap (λ (u : ℕ). set (state_of c).sessions i (record { subject = u; last = o })) speaks

      order : map entry_of d.places.items ≡ (state_of c).order ++ orders.Line i o (session_at (state_of c) i).subject w ∷ []
      order =
          ap (map entry_of) v.places
          ∙ map-append entry_of c.places.items (new_place (length c.places.items) i o subject w ∷ [])
          ∙ ap (λ (u : ℕ). (state_of c).order ++ orders.Line i o u w ∷ []) speaks

      phases : map (λ (p : Place). phase_of p.stand) d.places.items ≡ (state_of c).phases ++ Waiting ∷ []
      phases =
          ap (map (λ (p : Place). phase_of p.stand)) v.places
          ∙ map-append (λ (p : Place). phase_of p.stand) c.places.items (new_place (length c.places.items) i o subject w ∷ [])

  module _ (k : Keeps c) (needs : Needs (state_of c) (Admits i o w)) (known : subject < length c.setup.policy.subjects) (knows : KnowsWork c.setup w) (first : HasBehaviour w 0) where
    sound : IsSound (state_of c)
    sound = sound-reached (state_of c) k.reached

    runs_same : (n : ℕ) → runs (change (state_of c) (Admits i o w)) n ≡ runs (state_of c) n
    runs_same n = ap is_running (phases-admitted (state_of c) sound i o w n)

    altered_same : (n e : ℕ) → n < length (state_of c).order
        → is_altered (accesses_of (past_at (change (state_of c) (Admits i o w)) n).task) e ≡ is_altered (accesses_of (past_at (state_of c) n).task) e
    altered_same n e lt = ap (λ (p : Past). is_altered (accesses_of p.task) e) (past-admitted (state_of c) sound i o w n lt)

    shelved : AreShelved (change (state_of c) (Admits i o w)) c.shelves.items
    shelved = record {
      contents = λ e lt. k.shelved.contents e lt ∙ sym (content_now-admitted (state_of c) i o w e sound);
      away = λ e lt is.
          let q : IsAway (state_of c) e = k.shelved.away e lt is in
          (q.0, runs_same q.0 ∙ q.1, altered_same q.0 e (within (state_of c) sound q.0 q.1) ∙ q.2);
      home = λ e lt is n r.
          let r' : runs (state_of c) n ≡ true = sym (runs_same n) ∙ r in
          altered_same n e (within (state_of c) sound n r') ∙ k.shelved.home e lt is n r';
    }

    stands_same : (m : ℕ) → m < length c.places.items → (place_in d.places.items m).stand ≡ (place_in c.places.items m).stand
    stands_same m lt =
        ap (λ (l : List Place). (place_in l m).stand) v.places
        ∙ ap (λ (s : Place). s.stand) (get_or-append c.places.items (new_place (length c.places.items) i o subject w ∷ []) no_place m lt)

    last : (m : ℕ) → length c.places.items ≤ m → m < length d.places.items → length c.places.items ≡ m
    last m ge lt = omega (arith, ge, lt, ap length v.places, length-append c.places.items (new_place (length c.places.items) i o subject w ∷ []))

    pub kept-admitted : Keeps d
    kept-admitted =
        kept-moved c d (Admits i o w) k needs (record {
          view = state-admitted;
          setup = v.setup;
          grows = subst (Grows c.places.items) (sym v.places) (grows-append c.places.items (new_place (length c.places.items) i o subject w ∷ []));
          stands = λ m lt. inl (stands_same m lt);
          new = λ m ge lt. subst (λ (j : ℕ). Tells c.setup d.places.items j (past_at (change (state_of c) (Admits i o w)) j)) (last m ge lt)
              (subst (λ (l : List Place). Tells c.setup l (length c.places.items) (past_at (change (state_of c) (Admits i o w)) (length c.places.items))) (sym v.places) (tells_new c i o subject w speaks k needs known knows first));
          policy = v.policy ∙ k.policy ∙ sym (policy_now-admitted (state_of c) i o w sound);
          subjects = ap (λ (p : SecurityPolicy). length p.subjects) v.policy;
          documents = ap (λ (p : SecurityPolicy). length p.documents) v.policy;
          speakers = subst (λ (l : List Row). All (λ (s : Row). s.subject < length c.setup.policy.subjects) l) (sym v.sessions)
              (All-set (λ (s : Row). s.subject < length c.setup.policy.subjects) c.sessions.items i (record { subject = subject; last = o }) k.speakers known);
          as_many = ap (λ h. length h.items) v.shelves;
          shelved = subst (AreShelved (change (state_of c) (Admits i o w))) (sym (ap (λ h. h.items) v.shelves)) shelved;
          weight = v.weight ∙ ap (λ (n : ℕ). n + weight_of w) k.weight ∙ sym (sum_by_push entry_weight (state_of c).order (orders.Line i o (session_at (state_of c) i).subject w));
          queued = v.queued;
          limit = v.limit;
          capacity = v.capacity;
          rooms = v.rooms;
        })

pub session-read : (c : Inside) (i : ℕ) (r : Row) → i < length c.sessions.items → r ≡ get_or c.sessions.items i r → r.subject ≡ (session_at (state_of c) i).subject
session-read c i r lt at =
    ap (λ (s : Row). s.subject) at
    ∙ sym (ap (λ (s : Session). s.subject) (get_or-map row_value c.sessions.items i r no_session lt))

pub length-sessions : (c : Inside) → length (state_of c).sessions ≡ length c.sessions.items
length-sessions c = length-map c.sessions.items row_value

pub last-read : (c : Inside) (i : ℕ) (r : Row) → i < length c.sessions.items → r ≡ get_or c.sessions.items i r → r.last ≡ (session_at (state_of c) i).last
last-read c i r lt at =
    ap (λ (s : Row). s.last) at
    ∙ sym (ap (λ (s : Session). s.last) (get_or-map row_value c.sessions.items i r no_session lt))
