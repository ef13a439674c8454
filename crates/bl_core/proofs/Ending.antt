-- The children that enter when a place ends.
use Rattle.std.proofs.Common.{◌≡◌, ◌≢◌, ℕ, zero, suc, ◌<◌, ◌≤◌, ◌+◌, ◌-◌, ◌⊎◌, inl, inr, Bool, true, false, ◌||◌, List, [], ◌∷◌, ◌++◌, length, get_or, set, replicate, refl, ap, sym, ◌∙◌, arith, subst, length-append, length-set, true≢false}
use Rattle.std.specs.Prelude.{sum_by, map}
use Rattle.std.proofs.Math.Seq.{map-set_same}
use Rattle.std.proofs.lemmas.List.{get_or-append_right, map-set, map-append}
use Rattle.std.proofs.lemmas.List.Sums.{sum_by-append}
use Rattle.bl_level.specs.Level.{SecurityLevel, join_of}
use Rattle.bl_policy.specs.Policy.{SecurityPolicy, current_of}
use Rattle.bl_work.specs.Effects.{children}
use Rattle.bl_work.specs.declared.work.Work.{Work}
use Rattle.bl_work.specs.declared.work.Work.TheVariants as works
use Rattle.bl_setup.specs.declared.version.Version.{Version}
use Rattle.bl_setup.specs.declared.version.Version.TheVariants.{One, Two}
use Rattle.bl_order.specs.Known.{KnowsWork}
use Rattle.bl_order.specs.Headline.{IsReached}
use Rattle.bl_order.specs.Room.{IsBehaviourOrRule}
use Rattle.bl_order.specs.Order.{Entry, Task, accesses_of, is_altered, is_declared}
use Rattle.bl_order.specs.Order as orders
use Rattle.bl_order.specs.Past.{Past, no_entry, subject_of, carried_of, task_of, earlier, at_place, first_task, child_task}
use Rattle.bl_order.specs.Machine.{State, Phase, Waiting, Ended, Ends, change, past_at, runs, has_ended, is_lost, phase_at, child_entries, children_at, entry_weight}
use Rattle.bl_order.proofs.Sound.{IsSound}
use Rattle.bl_order.proofs.Conflicts.{conflict_where_altered, altered_is_declared}
use Rattle.bl_order.proofs.HeadlineProof.{holds-reached}
use Rattle.bl_order.proofs.Places.{at_place-earlier}
use Rattle.bl_order.proofs.Reached.{sound-reached, reached-next}
use Rattle.bl_order.proofs.Steps.{length-child_entries, running_is_not_over}
use Rattle.bl_order.proofs.Trails.{past-ended, within}
use Rattle.bl_place.specs.Places.{no_place, place_in, entry_of, phase_of, work_of, work_in, task_in, child_place, child_places, HasBehaviour}
use Rattle.bl_place.specs.Queueing.{MayEnter, stand_for}
use Rattle.bl_core.specs.View.{state_of}
use Rattle.bl_core.specs.Keeps.{Keeps, Tells}
use Rattle.bl_place.specs.declared.place.Place.{Place}
use Rattle.bl_place.specs.declared.place.Siblings.{Siblings}
use Rattle.bl_place.specs.declared.place.Stand.TheVariants as stands
use Rattle.bl_core.specs.declared.session.Session.{Session}
use Rattle.bl_core.specs.declared.machine.Core.TheInside.{Inside}
use Rattle.bl_core.proofs.Queueing.{claims-right}
use Rattle.bl_core.proofs.Grown.{Same, Grows, grows-set, grows-append, grows-both}
use Rattle.bl_core.proofs.Views.{length-order}
use Rattle.bl_core.proofs.Written.{Written, same-entry}

-- what the children of a place have in common: they carry its level now, joined with what it carried
abbrev pub siblings_of : Inside → ℕ → Siblings
siblings_of c n = record {
  parent = n;
  root = (place_in c.places.items n).root;
  subject = (place_in c.places.items n).subject;
  carried = join_of (current_of c.policy (place_in c.places.items n).subject) (place_in c.places.items n).carried;
}

pub length-child_places : (b : Siblings) (which : ℕ) (ks : List ℕ) → length (child_places b which ks) ≡ length ks
length-child_places b which [] = refl
length-child_places b which (k ∷ ks) = ap suc (length-child_places b (which + 1) ks)

entries-children : (b : Siblings) (which : ℕ) (ks : List ℕ) → map entry_of (child_places b which ks) ≡ child_entries b.parent which ks
entries-children b which [] = refl
entries-children b which (k ∷ ks) = ap (λ (l : List Entry). orders.Child b.parent which ∷ l) (entries-children b (which + 1) ks)

phases-children : (b : Siblings) (which : ℕ) (ks : List ℕ) → map (λ (s : Place). phase_of s.stand) (child_places b which ks) ≡ replicate (length ks) Waiting
phases-children b which [] = refl
phases-children b which (k ∷ ks) = ap (λ l. Waiting ∷ l) (phases-children b (which + 1) ks)

weight-children : (p which : ℕ) (ks : List ℕ) → sum_by entry_weight (child_entries p which ks) ≡ 0
weight-children p which [] = refl
weight-children p which (k ∷ ks) = weight-children p (which + 1) ks

-- children weigh nothing
pub weight-ended : (x : State) (n : ℕ) → sum_by entry_weight (change x (Ends n)).order ≡ sum_by entry_weight x.order
weight-ended x n = omega (arith, sum_by-append entry_weight x.order (children_at x n), weight-children n 1 (children (past_at x n).effects))

or_left : (a b : Bool) → a ≡ true → (a || b) ≡ true
or_left true b h = refl
or_left false b h = absurd (true≢false (sym h))

-- of two places that run, none alters what the other does
pub alone : (x : State) → IsSound x → (n : ℕ) → runs x n ≡ true → (m o : ℕ) → m ≢ n → runs x m ≡ true
    → is_altered (accesses_of (past_at x m).task) o ≡ true → is_altered (accesses_of (past_at x n).task) o ≡ true → ⊥
alone x sound n rn m o ne rm am an = go (order m n ne)
  where
    order : (a b : ℕ) → a ≢ b → (a < b) ⊎ (b < a)
    order a b h = grind arith

    clash : (i j : ℕ) → i < j → runs x i ≡ true → runs x j ≡ true → is_altered (accesses_of (past_at x i).task) o ≡ true
        → is_altered (accesses_of (past_at x j).task) o ≡ true → ⊥
    clash i j lt ri rj ai aj =
        true≢false (sym (sound.orderly i j lt (within x sound j rj) (or_left (runs x j) (has_ended x j) rj)
        (conflict_where_altered (past_at x i).task (past_at x j).task o ai (altered_is_declared (accesses_of (past_at x j).task) o aj)))
        ∙ running_is_not_over (phase_at x i) ri)

    go : (m < n) ⊎ (n < m) → ⊥
    go (inl lt) = clash m n lt rm rn am an
    go (inr lt) = clash n m lt rn rm an am

pub child_again : (w : Work) (i b : ℕ) → child_task (child_task (first_task w) i) b ≡ child_task (first_task w) b
child_again (works.Behaviour script) i b = refl
child_again (works.Rule rule) i b = refl

pub has_behaviour : (w : Work) (i : ℕ) → IsBehaviourOrRule (child_task (first_task w) i) → HasBehaviour w i
has_behaviour (works.Behaviour script) i is = is.1
has_behaviour (works.Rule rule) i is = tt

plus_zero : (a : ℕ) → a ≡ a + 0
plus_zero a = omega arith

plus_suc : (a b : ℕ) → (a + 1) + b ≡ a + suc b
plus_suc a b = omega arith

child-read : (b : Siblings) (which : ℕ) (ks : List ℕ) (j : ℕ) → j < length ks
    → get_or (child_places b which ks) j no_place ≡ child_place b (which + j) (get_or ks j 0)
child-read b which [] j lt = absurd (omega arith)
child-read b which (k ∷ ks) zero lt = ap (λ v. child_place b v k) (plus_zero which)
child-read b which (k ∷ ks) (suc j) lt = child-read b (which + 1) ks j (omega arith) ∙ ap (λ v. child_place b v (get_or ks j 0)) (plus_suc which j)

entry-read : (p which : ℕ) (ks : List ℕ) (j : ℕ) → j < length ks → get_or (child_entries p which ks) j no_entry ≡ orders.Child p (which + j)
entry-read p which [] j lt = absurd (omega arith)
entry-read p which (k ∷ ks) zero lt = ap (orders.Child p) (plus_zero which)
entry-read p which (k ∷ ks) (suc j) lt = entry-read p (which + 1) ks j (omega arith) ∙ ap (orders.Child p) (plus_suc which j)

less : (a b : ℕ) → (a + b) - a ≡ b
less a b = omega arith

module _ (c : Inside) (n : ℕ) (t : Place) (ks : List ℕ) (k : Keeps c) (r : runs (state_of c) n ≡ true) (same : Same (place_in c.places.items n) t)
    (are : ks ≡ children (past_at (state_of c) n).effects)
    (law : (x : State) (m : ℕ) → IsReached x → m < length x.order → IsBehaviourOrRule (past_at x m).task) where
  abbrev family : List Place
  family = child_places (siblings_of c n) 1 ks

  abbrev after : List Place
  after = set c.places.items n t ++ child_places (siblings_of c n) 1 ks

  sound : IsSound (state_of c)
  sound = sound-reached (state_of c) k.reached

  lt : n < length c.places.items
  lt = subst (λ (m : ℕ). n < m) (length-order c) (within (state_of c) sound n r)

  grows-after : Grows c.places.items after
  grows-after = grows-both c.places.items (set c.places.items n t) after (grows-set c.places.items n t lt same) (grows-append (set c.places.items n t) family)

  place-read : (j : ℕ) → j < length ks → get_or after (length c.places.items + j) no_place
      ≡ child_place (siblings_of c n) (1 + j) (get_or ks j 0)
  place-read j l =
      get_or-append_right (set c.places.items n t) family (length c.places.items) (length c.places.items + j) no_place (length-set c.places.items n t) (omega arith)
      ∙ ap (λ m. get_or family m no_place) (less (length c.places.items) j)
      ∙ child-read (siblings_of c n) 1 ks j l

  work-read : (j : ℕ) → j < length ks → work_in after (length c.places.items + j) ≡ work_in c.places.items n
  work-read j l =
      ap (λ (s : Place). work_of (get_or after s.root no_place).descent) (place-read j l)
      ∙ ap work_of (grows-after.same (place_in c.places.items n).root (k.told n lt).root).descent

  entry-new : (j : ℕ) → j < length ks → get_or (change (state_of c) (Ends n)).order (length c.places.items + j) no_entry ≡ orders.Child n (1 + j)
  entry-new j l =
      get_or-append_right (state_of c).order (children_at (state_of c) n) (length c.places.items) (length c.places.items + j) no_entry (length-order c) (omega arith)
      ∙ ap (λ m. get_or (children_at (state_of c) n) m no_entry) (less (length c.places.items) j)
      ∙ entry-read n 1 (children (past_at (state_of c) n).effects) j (subst (λ (xs : List ℕ). j < length xs) are l)

  abbrev before : ℕ → List Past
  before j = earlier (change (state_of c) (Ends n)).setup (is_lost (change (state_of c) (Ends n))) (change (state_of c) (Ends n)).order (length c.places.items + j)

  parent-read : (j : ℕ) → at_place (before j) n ≡ past_at (state_of c) n
  parent-read j =
      at_place-earlier (change (state_of c) (Ends n)).setup (is_lost (change (state_of c) (Ends n))) (change (state_of c) (Ends n)).order (length c.places.items + j) n (omega (arith, lt))
      ∙ past-ended (state_of c) sound n r n (within (state_of c) sound n r)

  which-less : (j : ℕ) → (1 + j) - 1 ≡ j
  which-less j = omega arith

  task-new : (j : ℕ) → j < length ks → (past_at (change (state_of c) (Ends n)) (length c.places.items + j)).task ≡ task_in after (length c.places.items + j)
  task-new j l =
      ap (task_of (before j)) (entry-new j l)
      ∙ ap (λ (p : Past). child_task p.task (get_or (children p.effects) ((1 + j) - 1) 0)) (parent-read j)
      ∙ ap (λ (m : ℕ). child_task (past_at (state_of c) n).task (get_or (children (past_at (state_of c) n).effects) m 0)) (which-less j)
      ∙ ap (λ (xs : List ℕ). child_task (past_at (state_of c) n).task (get_or xs j 0)) (sym are)
      ∙ ap (λ (u : Task). child_task u (get_or ks j 0)) (k.told n lt).task
      ∙ child_again (work_in c.places.items n) (place_in c.places.items n).index (get_or ks j 0)
      ∙ ap (λ (w : Work). child_task (first_task w) (get_or ks j 0)) (sym (work-read j l))
      ∙ ap (λ (s : Place). child_task (first_task (work_in after (length c.places.items + j))) s.index) (sym (place-read j l))

  in_order : (j : ℕ) → j < length ks → length c.places.items + j < length (change (state_of c) (Ends n)).order
  in_order j l =
      omega (arith, l, length-append (state_of c).order (children_at (state_of c) n), length-order c, ap length are, length-child_entries n 1 (children (past_at (state_of c) n).effects))

  -- the level at which it ran is that of its subject now
  level-now : (past_at (state_of c) n).level ≡ current_of c.policy (place_in c.places.items n).subject
  level-now =
      ap (λ (p : SecurityPolicy). current_of p (past_at (state_of c) n).subject)
      (sym ((holds-reached (state_of c) k.reached).at_running n (within (state_of c) sound n r) r) ∙ sym k.policy)
      ∙ ap (current_of c.policy) (k.told n lt).subject

  -- so a child carries that, and what it carried
  carried-new : (v : Version) (j : ℕ) → v ≡ Two → carried_of v (before j) (orders.Child n (1 + j)) ≡ (siblings_of c n).carried
  carried-new One j two = absurd (cc)
  carried-new Two j two =
      ap (λ (p : Past). join_of p.level p.carried) (parent-read j)
      ∙ ap (λ (l : SecurityLevel). join_of l (past_at (state_of c) n).carried) level-now
      ∙ ap (join_of (current_of c.policy (place_in c.places.items n).subject)) (k.told n lt).carried

  pub tells-child : (j : ℕ) → j < length ks → Tells c.setup after (length c.places.items + j) (past_at (change (state_of c) (Ends n)) (length c.places.items + j))
  tells-child j l = record {
    task = task-new j l;
    subject =
        ap (subject_of (before j)) (entry-new j l)
        ∙ ap (λ (p : Past). p.subject) (parent-read j)
        ∙ (k.told n lt).subject
        ∙ ap (λ (s : Place). s.subject) (sym (place-read j l));
    carried = ap (carried_of c.setup.version (before j)) (entry-new j l) ∙ carried-new c.setup.version j k.two ∙ ap (λ (s : Place). s.carried) (sym (place-read j l));
    answer = λ a e. let f : stands.Waiting ≡ stands.Ended a = ap (λ (s : Place). s.stand) (sym (place-read j l)) ∙ e in absurd (cc);
    root = subst (λ (s : Place). s.root < length after) (sym (place-read j l)) (omega (arith, (k.told n lt).root, grows-after.longer));
    behaviour = has_behaviour (work_in after (length c.places.items + j)) (place_in after (length c.places.items + j)).index
        (subst IsBehaviourOrRule (task-new j l) (law (change (state_of c) (Ends n)) (length c.places.items + j) (reached-next (state_of c) (Ends n) k.reached r) (in_order j l)));
    speaks = subst (λ (s : Place). s.subject < length c.setup.policy.subjects) (sym (place-read j l)) (k.told n lt).speaks;
    knows = subst (KnowsWork c.setup) (sym (work-read j l)) (k.told n lt).knows;
  }

  over_length : (m : ℕ) → length c.places.items ≤ m → length c.places.items + (m - length c.places.items) ≡ m
  over_length m ge = omega (arith, ge)

  pub tells-new : (m : ℕ) → length c.places.items ≤ m → m < length after → Tells c.setup after m (past_at (change (state_of c) (Ends n)) m)
  tells-new m ge l =
      subst (λ (j : ℕ). Tells c.setup after j (past_at (change (state_of c) (Ends n)) j)) (over_length m ge)
      (tells-child (m - length c.places.items)
      (omega (arith, ge, l, length-append (set c.places.items n t) family, length-set c.places.items n t, length-child_places (siblings_of c n) 1 ks)))

  -- and may enter the queues
  pub enters-new : (m : ℕ) → length c.places.items ≤ m → m < length after → MayEnter (length c.setup.policy.documents + 1) after m
  enters-new m ge l =
      subst (MayEnter (length c.setup.policy.documents + 1) after) (over_length m ge)
      (enters (m - length c.places.items)
      (omega (arith, ge, l, length-append (set c.places.items n t) family, length-set c.places.items n t, length-child_places (siblings_of c n) 1 ks)))
    where
      enters : (j : ℕ) → j < length ks → MayEnter (length c.setup.policy.documents + 1) after (length c.places.items + j)
      enters j lj = record {
        task = (tells-child j lj).behaviour;
        claims = claims-right c.setup after (length c.places.items + j) (past_at (change (state_of c) (Ends n)) (length c.places.items + j)) (tells-child j lj)
            (subst IsBehaviourOrRule (task-new j lj) (law (change (state_of c) (Ends n)) (length c.places.items + j) (reached-next (state_of c) (Ends n) k.reached r) (in_order j lj)));
        waits = ap (λ (s : Place). stand_for s.stand) (place-read j lj);
      }

pub state-ended : (c d : Inside) (n : ℕ) (t : Place) (ks : List ℕ) → Written c d n t (child_places (siblings_of c n) 1 ks) → Same (place_in c.places.items n) t
    → phase_of t.stand ≡ Ended → ks ≡ children (past_at (state_of c) n).effects → state_of d ≡ change (state_of c) (Ends n)
state-ended c d n t ks w same ended are = λ j. record {
  setup = w.setup j;
  limit = w.limit j;
  sessions = map (λ (s : Session). record { subject = s.subject; last = s.last }) (w.sessions j);
  order = order j;
  phases = phases j;
}
  where
    order : map entry_of d.places.items ≡ (state_of c).order ++ children_at (state_of c) n
    order =
        ap (map entry_of) w.places
        ∙ map-append entry_of (set c.places.items n t) (child_places (siblings_of c n) 1 ks)
        ∙ ap (λ (l : List Entry). l ++ map entry_of (child_places (siblings_of c n) 1 ks)) (map-set_same entry_of c.places.items n t no_place (same-entry (place_in c.places.items n) t same))
        ∙ ap (λ (l : List Entry). (state_of c).order ++ l) (entries-children (siblings_of c n) 1 ks ∙ ap (child_entries n 1) are)

    phases : map (λ (s : Place). phase_of s.stand) d.places.items ≡ set (state_of c).phases n Ended ++ replicate (length (children_at (state_of c) n)) Waiting
    phases =
        ap (map (λ (s : Place). phase_of s.stand)) w.places
        ∙ map-append (λ (s : Place). phase_of s.stand) (set c.places.items n t) (child_places (siblings_of c n) 1 ks)
        ∙ ap (λ (l : List Phase). l ++ map (λ (s : Place). phase_of s.stand) (child_places (siblings_of c n) 1 ks))
        (map-set (λ (s : Place). phase_of s.stand) c.places.items n t ∙ ap (set (state_of c).phases n) ended)
        ∙ ap (λ (l : List Phase). set (state_of c).phases n Ended ++ l)
        (phases-children (siblings_of c n) 1 ks ∙ ap (λ (m : ℕ). replicate m Waiting) (ap length are ∙ sym (length-child_entries n 1 (children (past_at (state_of c) n).effects))))
