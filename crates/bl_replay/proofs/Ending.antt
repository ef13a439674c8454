-- A place ends, and its children enter.
use Rattle.std.proofs.Common.{◌≡◌, ℕ, zero, suc, ◌+◌, ◌-◌, ◌<◌, ◌≤◌, List, [], ◌∷◌, ◌++◌, length, get_or, set, replicate, refl, sym, ◌∙◌, ap, subst, arith, length-append, length-set}
use Rattle.std.specs.Prelude.{All, IsTrue, map, sum_by}
use Rattle.std.proofs.Math.ListN.{get_or-append}
use Rattle.std.proofs.lemmas.List.{map-append, get_or-append_right}
use Rattle.std.proofs.lemmas.Grind.{get_or_default_zero}
use Rattle.std.proofs.lemmas.List.Elements.{All-append}
use Rattle.std.proofs.lemmas.List.Sums.{sum_by-append}
use Rattle.bl_work.specs.Effects.{children}
use Rattle.bl_work.specs.declared.work.Work.{Work}
use Rattle.bl_work.specs.declared.work.Work.TheVariants as works
use Rattle.bl_setup.specs.Setup.{Setup}
use Rattle.bl_order.specs.Headline.{IsReached}
use Rattle.bl_order.specs.Known.{KnowsWork}
use Rattle.bl_order.specs.Machine.{State, Event, Phase, Ends, Needs, change, children_at, child_entries, past_at, is_lost, entry_weight}
use Rattle.bl_order.specs.Machine as machine
use Rattle.bl_order.specs.Order.{Entry, Task, unnamed}
use Rattle.bl_order.specs.Order as orders
use Rattle.bl_order.specs.Past.{Past, no_entry, task_of, earlier, at_place, first_task, child_task}
use Rattle.bl_order.specs.Room.{IsBehaviourOrRule}
use Rattle.bl_order.proofs.Places.{at_place-earlier}
use Rattle.bl_order.proofs.Reached.{sound-reached}
use Rattle.bl_order.proofs.Steps.{length-child_entries}
use Rattle.bl_order.proofs.Trails.{past-ended}
use Rattle.bl_queue.specs.Queues.{Queue}
use Rattle.bl_queue.specs.Queues as queues
use Rattle.bl_queue.specs.Entries as queued
use Rattle.bl_replay.specs.Keeps.{KeepsAt, session_in, setup_in}
use Rattle.bl_replay.specs.Kept.{KnowsPlace, child_places, entry_in, no_place, phase_in, place_in, queued_as, stand_of, task_in}
use Rattle.bl_replay.specs.declared.place.Origin.TheVariants.{Child}
use Rattle.bl_replay.specs.declared.place.Place.{Place}
use Rattle.bl_replay.specs.declared.place.Stand.TheVariants as stand
use Rattle.bl_replay.specs.declared.replayer.Replayer.{Replayer}
use Rattle.bl_replay.specs.declared.replayer.Session.{Session}
use Rattle.bl_replay.proofs.Moving.{keeps-moved, many-places}
use Rattle.bl_replay.proofs.Standing.{All-set, entries-set, here, phases-set, queued-set, standing, task-set}

length-children : (p : ℕ) (w : Work) (which : ℕ) (ks : List ℕ) → length (child_places p w which ks) ≡ length ks
length-children p w which [] = refl
length-children p w which (k ∷ ks) = ap suc (length-children p w (which + 1) ks)

entries-children : (p : ℕ) (w : Work) (which : ℕ) (ks : List ℕ) → map entry_in (child_places p w which ks) ≡ child_entries p which ks
entries-children p w which [] = refl
entries-children p w which (k ∷ ks) = ap (λ (l : List Entry). orders.Child p which ∷ l) (entries-children p w (which + 1) ks)

unnamed-children : (p which : ℕ) (ks : List ℕ) → map unnamed (child_entries p which ks) ≡ child_entries p which ks
unnamed-children p which [] = refl
unnamed-children p which (k ∷ ks) = ap (λ (l : List Entry). orders.Child p which ∷ l) (unnamed-children p (which + 1) ks)

phases-children : (p : ℕ) (w : Work) (which : ℕ) (ks : List ℕ) → map phase_in (child_places p w which ks) ≡ replicate (length ks) machine.Waiting
phases-children p w which [] = refl
phases-children p w which (k ∷ ks) = ap (λ (l : List Phase). machine.Waiting ∷ l) (phases-children p w (which + 1) ks)

weight-children : (p which : ℕ) (ks : List ℕ) → sum_by entry_weight (child_entries p which ks) ≡ 0
weight-children p which [] = refl
weight-children p which (k ∷ ks) = weight-children p (which + 1) ks

known-first : (s : Setup) (p : Place) (ps : List Place) → KnowsPlace s p → All (KnowsPlace s) ps → (j : ℕ) (d : Place) → j < length (p ∷ ps) → KnowsPlace s (get_or (p ∷ ps) j d)
known-first s p ps is all zero d lt = is
known-first s p ps is all (suc j) d lt = all j d (omega (arith, lt))

known-children : (s : Setup) (p : ℕ) (w : Work) (which : ℕ) (ks : List ℕ) → KnowsWork s w → All (KnowsPlace s) (child_places p w which ks)
known-children s p w which [] known = λ j d lt. absurd (omega arith)
known-children s p w which (k ∷ ks) known =
    known-first s (record { origin = Child p which; work = w; index = k; stand = stand.Waiting }) (child_places p w (which + 1) ks) (record { work = known; origin = tt }) (known-children s p w (which + 1) ks known)

abbrev child_place : ℕ → ℕ → Work → ℕ → Place
child_place p which w index = record { origin = Child p which; work = w; index = index; stand = stand.Waiting }

plus_zero : (a : ℕ) → a ≡ a + 0
plus_zero a = omega arith

plus_suc : (a b : ℕ) → (a + 1) + b ≡ a + suc b
plus_suc a b = omega arith

child-read : (p : ℕ) (w : Work) (which : ℕ) (ks : List ℕ) (j : ℕ) → j < length ks → get_or (child_places p w which ks) j no_place ≡ child_place p (which + j) w (get_or ks j 0)
child-read p w which [] j lt = absurd (omega arith)
child-read p w which (k ∷ ks) zero lt = ap (λ v. child_place p v w k) (plus_zero which)
child-read p w which (k ∷ ks) (suc j) lt = child-read p w (which + 1) ks j (omega arith) ∙ ap (λ v. child_place p v w (get_or ks j 0)) (plus_suc which j)

entry-read : (p which : ℕ) (ks : List ℕ) (j : ℕ) → j < length ks → get_or (child_entries p which ks) j no_entry ≡ orders.Child p (which + j)
entry-read p which [] j lt = absurd (omega arith)
entry-read p which (k ∷ ks) zero lt = ap (orders.Child p) (plus_zero which)
entry-read p which (k ∷ ks) (suc j) lt = entry-read p (which + 1) ks j (omega arith) ∙ ap (orders.Child p) (plus_suc which j)

less : (a b : ℕ) → (a + b) - a ≡ b
less a b = omega arith

which-less : (j : ℕ) → (1 + j) - 1 ≡ j
which-less j = omega arith

over-length : (a m : ℕ) → a ≤ m → a + (m - a) ≡ m
over-length a m ge = omega (arith, ge)

child-again : (w : Work) (i b : ℕ) → child_task (child_task (first_task w) i) b ≡ child_task (first_task w) b
child-again (works.Behaviour script) i b = refl
child-again (works.Rule rule) i b = refl

pub record Ended (r d : Replayer) (n : ℕ) (p : Place) (ks : List ℕ) : Type 0 where
  pub setup : setup_in d ≡ setup_in r
  pub limit : d.limit ≡ r.limit
  pub weight : d.weight ≡ r.weight
  pub marks : d.marks ≡ r.marks
  pub monitor : d.monitor ≡ r.monitor
  pub answers : d.answers ≡ r.answers
  pub sessions : d.sessions ≡ r.sessions
  pub places : d.places.items ≡ set r.places.items n (standing p stand.Ended) ++ child_places n p.work 1 ks
  pub queues : d.queues ≡ record (queues.with_stand r.queues n (stand_of stand.Ended)) { entries = (queues.with_stand r.queues n (stand_of stand.Ended)).entries ++ map queued_as (child_places n p.work 1 ks) }

module _ (x : State) (r : Replayer) (n : ℕ) (p : Place) (ks : List ℕ) (k : KeepsAt x r) (runs : Needs x (Ends n))
    (lt : n < length r.places.items) (at : p ≡ get_or r.places.items n p) (are : ks ≡ children (past_at x n).effects) where
  entry-new : (j : ℕ) → j < length ks → get_or (change x (Ends n)).order (length r.places.items + j) no_entry ≡ orders.Child n (1 + j)
  entry-new j l =
      get_or-append_right x.order (children_at x n) (length r.places.items) (length r.places.items + j) no_entry (many-places x r k) (omega arith)
      ∙ ap (λ m. get_or (children_at x n) m no_entry) (less (length r.places.items) j)
      ∙ entry-read n 1 (children (past_at x n).effects) j (subst (λ (xs : List ℕ). j < length xs) are l)

  abbrev before : ℕ → List Past
  before j = earlier (change x (Ends n)).setup (is_lost (change x (Ends n))) (change x (Ends n)).order (length r.places.items + j)

  parent-read : (j : ℕ) → at_place (before j) n ≡ past_at x n
  parent-read j =
      at_place-earlier (change x (Ends n)).setup (is_lost (change x (Ends n))) (change x (Ends n)).order (length r.places.items + j) n (omega (arith, lt))
      ∙ past-ended x (sound-reached x k.reached) n runs n (omega (arith, lt, many-places x r k))

  -- each child does the behaviour that its parent spawned
  task-child : (j : ℕ) → j < length ks → (past_at (change x (Ends n)) (length r.places.items + j)).task ≡ child_task (first_task p.work) (get_or ks j 0)
  task-child j l =
      ap (task_of (before j)) (entry-new j l)
      ∙ ap (λ (q : Past). child_task q.task (get_or (children q.effects) ((1 + j) - 1) 0)) (parent-read j)
      ∙ ap (λ (m : ℕ). child_task (past_at x n).task (get_or (children (past_at x n).effects) m 0)) (which-less j)
      ∙ ap (λ (xs : List ℕ). child_task (past_at x n).task (get_or xs j 0)) (sym are)
      ∙ ap (λ (u : Task). child_task u (get_or ks j 0)) (k.tasks n lt ∙ ap task_in (sym (here r.places.items n p stand.Ended lt at)))
      ∙ child-again p.work p.index (get_or ks j 0)

  many-children : length (children_at x n) ≡ length ks
  many-children = length-child_entries n 1 (children (past_at x n).effects) ∙ ap length (sym are)

  longer : length (change x (Ends n)).order ≡ length x.order + length (children_at x n)
  longer = length-append x.order (children_at x n)

  -- there is room for the children
  pub have-room : ((y : State) (m : ℕ) → IsReached y → IsTrue (machine.runs y m) → length y.order + length (children_at y m) ≤ y.limit) → length r.places.items + length ks ≤ x.limit
  have-room room = omega (arith, room x n k.reached runs, many-children, many-places x r k)

  -- and each of them is one of the behaviours of a script
  pub are-tasks : ((y : State) (f : Event) → IsReached y → Needs y f → IsReached (change y f))
      → ((y : State) (m : ℕ) → IsReached y → m < length y.order → IsBehaviourOrRule (past_at y m).task)
      → All (λ (index : ℕ). IsBehaviourOrRule (child_task (first_task p.work) index)) ks
  are-tasks next tasks j d l =
      subst (λ (index : ℕ). IsBehaviourOrRule (child_task (first_task p.work) index)) (sym (get_or_default_zero ks j d l))
      (subst IsBehaviourOrRule (task-child j l)
      (tasks (change x (Ends n)) (length r.places.items + j) (next x (Ends n) k.reached runs)
      (omega (arith, l, longer, many-children, many-places x r k))))

module _ (x : State) (r d : Replayer) (n : ℕ) (p : Place) (ks : List ℕ) (k : KeepsAt x r) (runs : Needs x (Ends n))
    (next : (y : State) (f : Event) → IsReached y → Needs y f → IsReached (change y f))
    (lt : n < length r.places.items) (at : p ≡ get_or r.places.items n p) (are : ks ≡ children (past_at x n).effects) (v : Ended r d n p ks) where
  abbrev old_places : List Place
  old_places = set r.places.items n (standing p stand.Ended)

  length-old : length (set r.places.items n (standing p stand.Ended)) ≡ length r.places.items
  length-old = length-set r.places.items n (standing p stand.Ended)

  order : map unnamed (x.order ++ children_at x n) ≡ map entry_in d.places.items
  order =
      map-append unnamed x.order (children_at x n)
      ∙ ap (λ l. l ++ map unnamed (children_at x n)) (k.order ∙ sym (entries-set r.places.items n p stand.Ended lt at))
      ∙ ap (λ l. map entry_in (set r.places.items n (standing p stand.Ended)) ++ l)
      (unnamed-children n 1 (children (past_at x n).effects) ∙ ap (child_entries n 1) (sym are) ∙ sym (entries-children n p.work 1 ks))
      ∙ sym (map-append entry_in (set r.places.items n (standing p stand.Ended)) (child_places n p.work 1 ks))
      ∙ ap (map entry_in) (sym v.places)

  phases : set x.phases n machine.Ended ++ replicate (length (children_at x n)) machine.Waiting ≡ map phase_in d.places.items
  phases =
      ap (λ (l : List Phase). set l n machine.Ended ++ replicate (length (children_at x n)) machine.Waiting) k.phases
      ∙ ap (λ (l : List Phase). l ++ replicate (length (children_at x n)) machine.Waiting) (sym (phases-set r.places.items n p stand.Ended lt at))
      ∙ ap (λ (l : List Phase). map phase_in (set r.places.items n (standing p stand.Ended)) ++ l)
      (ap (λ (m : ℕ). replicate m machine.Waiting) (length-child_entries n 1 (children (past_at x n).effects) ∙ ap length (sym are)) ∙ sym (phases-children n p.work 1 ks))
      ∙ sym (map-append phase_in (set r.places.items n (standing p stand.Ended)) (child_places n p.work 1 ks))
      ∙ ap (map phase_in) (sym v.places)

  place-new : (j : ℕ) → j < length ks → place_in d.places.items (length r.places.items + j) ≡ child_place n (1 + j) p.work (get_or ks j 0)
  place-new j l =
      ap (λ (q : List Place). place_in q (length r.places.items + j)) v.places
      ∙ get_or-append_right (set r.places.items n (standing p stand.Ended)) (child_places n p.work 1 ks) (length r.places.items) (length r.places.items + j) no_place length-old (omega arith)
      ∙ ap (λ m. get_or (child_places n p.work 1 ks) m no_place) (less (length r.places.items) j)
      ∙ child-read n p.work 1 ks j l

  task-new : (j : ℕ) → j < length ks → (past_at (change x (Ends n)) (length r.places.items + j)).task ≡ task_in (place_in d.places.items (length r.places.items + j))
  task-new j l = task-child x r n p ks k runs lt at are j l ∙ ap task_in (sym (place-new j l))

  new : (m : ℕ) → length r.places.items ≤ m → m < length d.places.items → (past_at (change x (Ends n)) m).task ≡ task_in (place_in d.places.items m)
  new m ge l =
      subst (λ (j : ℕ). (past_at (change x (Ends n)) j).task ≡ task_in (place_in d.places.items j)) (over-length (length r.places.items) m ge)
      (task-new (m - length r.places.items)
      (omega (arith, ge, l, ap length v.places, length-append (set r.places.items n (standing p stand.Ended)) (child_places n p.work 1 ks), length-old, length-children n p.work 1 ks)))

  pub keeps-ended : KeepsAt (change x (Ends n)) d
  keeps-ended = keeps-moved x (Ends n) r d k runs next (record {
    setup_stays = refl;
    limit_stays = refl;
    setup = v.setup;
    limit = v.limit;
    marks = v.marks;
    monitor = v.monitor;
    answers = v.answers;
    sessions = k.sessions ∙ ap (λ l. map session_in l.items) (sym v.sessions);
    few = k.few;
    speakers = subst (λ l. All (λ (s : Session). s.subject < length x.setup.policy.subjects) l.items) (sym v.sessions) k.speakers;
    order = order;
    phases = phases;
    weight = v.weight ∙ k.weight ∙ sym (sum_by-append entry_weight x.order (children_at x n) ∙ ap (λ m. sum_by entry_weight x.order + m) (weight-children n 1 (children (past_at x n).effects)) ∙ sym (plus_zero (sum_by entry_weight x.order)));
    more = map entry_in (child_places n p.work 1 ks);
    entries = ap (map entry_in) v.places ∙ map-append entry_in (set r.places.items n (standing p stand.Ended)) (child_places n p.work 1 ks)
        ∙ ap (λ l. l ++ map entry_in (child_places n p.work 1 ks)) (entries-set r.places.items n p stand.Ended lt at);
    old = λ m l. ap task_in (ap (λ (q : List Place). place_in q m) v.places ∙ get_or-append (set r.places.items n (standing p stand.Ended)) (child_places n p.work 1 ks) no_place m (omega (arith, l, length-old)))
        ∙ task-set r.places.items n p stand.Ended lt at m;
    new = new;
    known = subst (All (KnowsPlace x.setup)) (sym v.places)
        (All-append (KnowsPlace x.setup) (set r.places.items n (standing p stand.Ended)) (child_places n p.work 1 ks)
        (All-set (KnowsPlace x.setup) r.places.items n (standing p stand.Ended) k.known (record { work = mine.work; origin = mine.origin }))
        (known-children x.setup n p.work 1 ks mine.work));
    queues = v.queues
        ∙ ap (λ (q : Queue). record (queues.with_stand q n (stand_of stand.Ended)) { entries = (queues.with_stand q n (stand_of stand.Ended)).entries ++ map queued_as (child_places n p.work 1 ks) }) k.queues
        ∙ ap (λ (l : List queued.Entry). record { cowns = length x.setup.policy.documents + 1; limit = x.limit; entries = l })
        (ap (λ (l : List queued.Entry). l ++ map queued_as (child_places n p.work 1 ks)) (queued-set r.places.items n p stand.Ended lt at)
        ∙ sym (map-append queued_as (set r.places.items n (standing p stand.Ended)) (child_places n p.work 1 ks)) ∙ ap (map queued_as) (sym v.places));
  })
    where
      mine : KnowsPlace x.setup p
      mine = subst (KnowsPlace x.setup) (sym (here r.places.items n p stand.Ended lt at)) (k.known n no_place lt)
