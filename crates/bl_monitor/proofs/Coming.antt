-- Which entries may come next, and what runs for them, by what is kept.
use Rattle.std.proofs.Common.{◌≡◌, ℕ, ◌-◌, ◌<◌, ◌≤◌, true, cond, List, [], ◌∷◌, ◌++◌, length, get_or, refl, sym, ◌∙◌, ap, subst, arith}
use Rattle.std.specs.Prelude.{is_some, nat_lt, ◌&&◌, slice_index_or, Some, None}
use Rattle.bl_policy.specs.FirstFault.{first_fault}
use Rattle.bl_policy.specs.Policy.{SecurityPolicy, current_of, lowest}
use Rattle.bl_policy.proofs.Rules.{AsMany}
use Rattle.std.proofs.lemmas.Bool.Decides.{nat_tests}
use Rattle.std.proofs.lemmas.List.{get_or_default}
use Rattle.std.proofs.lemmas.List.Elements.{All-get_or}
use Rattle.bl_work.specs.Effects.{children}
use Rattle.bl_work.specs.declared.work.Work.{Work}
use Rattle.bl_work.specs.declared.work.Work.TheVariants as work
use Rattle.bl_setup.specs.Setup.{Setup}
use Rattle.bl_setup.specs.declared.version.Version.{Version}
use Rattle.bl_setup.specs.declared.version.Version.TheVariants.{One, Two}
use Rattle.bl_order.specs.Order.{Task, Line, Child, accesses_of}
use Rattle.bl_order.specs.Past.{Past, at_place, is_done, changed, carried_of, first_task, child_task, fault_of_task, deeds}
use Rattle.bl_order.proofs.Places.{at_place-earlier}
use Rattle.bl_monitor.specs.declared.monitor.Monitor.TheInside.{Inside}
use Rattle.bl_monitor.specs.declared.monitor.Entry.{Entry}
use Rattle.bl_monitor.specs.declared.monitor.Entry.TheVariants as entry
use Rattle.bl_monitor.specs.declared.place.Admitted.{Admitted}
use Rattle.bl_monitor.specs.declared.place.Place.{Place}
use Rattle.bl_monitor.specs.Heard.{Heard, is_lost, place_at, IsChild, MayCome, Knows, children_of, spawned_by, fault_of, answer_at}
use Rattle.bl_monitor.specs.Kept.{spawned_of}
use Rattle.bl_monitor.specs.Places as kept
use Rattle.bl_monitor.specs.Places.{no_place, place_of, script_of, HasScript, HasChild}
use Rattle.bl_monitor.specs.Sound.{setup_of, heard_of, pasts_of, kept_policy_at, Tells, IsSound, CanCome, IsAdmitted}
use Rattle.bl_monitor.specs.declared.judge.Judged.{Judged}
use Rattle.bl_monitor.specs.Undoing.{content_listed}
use Rattle.bl_monitor.specs.Judging.{HasBelow, IsJudged, KnowsEntry, Leaves, carried_by_children, case_of, content_behind, record_of}
use Rattle.bl_order.specs.Known.{KnowsAnswer, KnowsWork}
use Rattle.bl_order.proofs.KnownAnswers.{answer_known}
use Rattle.bl_monitor.proofs.Ids.{task_ids}
use Rattle.bl_monitor.proofs.Keeps.{IsNext, as_many_ruled, length-mapped, sound_more, answer_more}

-- a line carries nothing, in each version
line_carries : (v : Version) (pasts : List Past) (subject : ℕ) (w : Work) → carried_of v pasts (Line 0 0 subject w) ≡ lowest
line_carries One pasts subject w = refl
line_carries Two pasts subject w = refl

-- a child carries what its parent's record says that its children do
child_carries : (v : Version) (pasts : List Past) (parent which : ℕ)
    → carried_of v pasts (Child parent which) ≡ carried_by_children v (at_place pasts parent).level (at_place pasts parent).carried
child_carries One pasts parent which = refl
child_carries Two pasts parent which = refl

-- a work whose ids are known, with the first behaviour of its script
first_ids : (setup : Setup) (w : Work) → KnowsWork setup w → HasScript w → HasBelow (length setup.policy.subjects) (length setup.policy.documents) w 0
first_ids setup (work.Behaviour script) knows right = (knows, right.preorder.some)
first_ids setup (work.Rule rule) knows right = knows

-- and with another one
other_ids : (subjects documents : ℕ) (w : Work) (index behaviour : ℕ) → HasBelow subjects documents w index → (behaviour < length (script_of w))
    → HasBelow subjects documents w behaviour
other_ids subjects documents (work.Behaviour script) index behaviour there lt = (there.0, lt)
other_ids subjects documents (work.Rule rule) index behaviour there lt = there

first_is : (w : Work) → first_task w ≡ child_task (first_task w) 0
first_is (work.Behaviour script) = refl
first_is (work.Rule rule) = refl

other_is : (w : Work) (index behaviour : ℕ) → child_task (child_task (first_task w) index) behaviour ≡ child_task (first_task w) behaviour
other_is (work.Behaviour script) index behaviour = refl
other_is (work.Rule rule) index behaviour = refl

few_behaviours : (w : Work) → HasScript w → length (script_of w) ≤ 32
few_behaviours (work.Behaviour script) right = right.few
few_behaviours (work.Rule rule) right = omega arith

module _ (m : Inside) (sound : IsSound (setup_of m) m.policy m.contents.items m.places.items) where
  abbrev setup : Setup
  setup = setup_of m

  abbrev policy : SecurityPolicy
  policy = m.policy

  abbrev contents : List (List ℕ)
  contents = m.contents.items

  abbrev places : List Place
  places = m.places.items

  abbrev h : Heard
  h = heard_of setup places

  pub as_long : length h.order ≡ length places
  as_long = length-mapped (λ (q : Place). kept.entry_of q.admitted) places

  record_at : (k : ℕ) → k < length places → at_place (pasts_of setup places) k ≡ place_at h k
  record_at k lt = at_place-earlier setup (is_lost h) h.order (length places) k lt

  told_at : (k : ℕ) → k < length places → Tells setup (kept_policy_at setup places k) (slice_index_or places k no_place) (place_at h k)
  told_at k lt = subst (Tells setup (kept_policy_at setup places k) (slice_index_or places k no_place)) (record_at k lt) (sound.told k lt)

  pub child_is : (parent which : ℕ) → HasChild places parent which → IsChild h parent which
  child_is parent which has =
      let t : Tells setup (kept_policy_at setup places parent) (slice_index_or places parent no_place) (place_at h parent) = told_at parent has.behind in
      record {
        from_one = has.from_one;
        behind = let b : parent < length places = has.behind in omega (arith, as_long);
        done = sym t.ran ∙ has.done;
        spawned = let w : which ≤ length (spawned_of (slice_index_or places parent no_place).children) = has.spawned in omega (arith, ap length t.spawned);
      }

  pub child_has : (parent which : ℕ) → IsChild h parent which → HasChild places parent which
  child_has parent which is =
      let b : parent < length h.order = is.behind in
      let behind : parent < length places = omega (arith, as_long) in
      let t : Tells setup (kept_policy_at setup places parent) (slice_index_or places parent no_place) (place_at h parent) = told_at parent behind in
      record {
        behind = behind;
        done = t.ran ∙ is.done;
        from_one = is.from_one;
        spawned = let w : which ≤ length (children (place_at h parent).effects) = is.spawned in omega (arith, ap length t.spawned);
      }

  pub may_come : (e : Entry) → CanCome places e → MayCome h e
  may_come (entry.Line subject w lost) can = tt
  may_come (entry.Child parent which lost) can = child_is parent which can

  pub can_come : (e : Entry) → MayCome h e → CanCome places e
  can_come (entry.Line subject w lost) may = tt
  can_come (entry.Child parent which lost) may = child_has parent which may

  pub admitted_can : (e : Entry) (a : Admitted) → IsAdmitted places e a → CanCome places e
  admitted_can (entry.Line subject w lost) a is = tt
  admitted_can (entry.Child parent which lost) a is = is.0

  pub next : (e : Entry) (a : Admitted) → Knows setup e → IsAdmitted places e a → HasScript a.work → IsNext setup (pasts_of setup places) a
  next (entry.Line subject w lost) a knows is right = subst (λ b. HasScript b.work → IsNext setup (pasts_of setup places) b) (sym is)
      (λ (r : HasScript w). record {
        right = record { subject = knows.0; ids = first_ids setup w knows.1 r; script = r };
        subject = refl;
        carried = line_carries setup.version (pasts_of setup places) subject w;
        task = first_is w;
      }) right
  next (entry.Child parent which lost) a knows is right = subst (λ b. HasScript b.work → IsNext setup (pasts_of setup places) b) (sym is.1)
      (λ (r : HasScript (slice_index_or places parent no_place).admitted.work).
      let t : Tells setup (kept_policy_at setup places parent) (slice_index_or places parent no_place) (at_place (pasts_of setup places) parent) = sound.told parent is.0.behind in
      let one : 0 < which = is.0.from_one in
      let most : which ≤ length (spawned_of (slice_index_or places parent no_place).children) = is.0.spawned in
      let w : Work = (slice_index_or places parent no_place).admitted.work in
      record {
        right = record {
          subject = t.right.subject;
          ids = other_ids (length setup.policy.subjects) (length setup.policy.documents) w (slice_index_or places parent no_place).admitted.index
              (slice_index_or (spawned_of (slice_index_or places parent no_place).children) (which - 1) 0) t.right.ids
              (subst (λ xs. slice_index_or xs (which - 1) 0 < length (script_of w)) (sym t.spawned)
              (All-get_or (λ behaviour. behaviour < length (script_of w)) (children (at_place (pasts_of setup places) parent).effects) (which - 1) 0
              (omega (arith, ap length t.spawned)) t.each));
          script = r;
        };
        subject = t.subject;
        carried = child_carries setup.version (pasts_of setup places) parent which ∙ sym t.by_children;
        task = ap (λ k. child_task k (slice_index_or (children (at_place (pasts_of setup places) parent).effects) (which - 1) 0)) t.task
            ∙ other_is w (slice_index_or places parent no_place).admitted.index (slice_index_or (children (at_place (pasts_of setup places) parent).effects) (which - 1) 0)
            ∙ ap (λ xs. child_task (first_task w) (slice_index_or xs (which - 1) 0)) (sym t.spawned);
      }) right

  found_at : (n : ℕ) (q : Place) → n < length places → q ≡ get_or places n q → Tells setup (kept_policy_at setup places n) q (place_at h n)
  found_at n q lt is = subst (λ r. Tells setup (kept_policy_at setup places n) r (place_at h n)) (sym (is ∙ get_or_default places n q no_place lt)) (told_at n lt)

  below : (n : ℕ) → n < length places → nat_lt n (length h.order) ≡ true
  below n lt = let le : n < length h.order = omega (arith, as_long) in grind (arith, nat_tests)

  pub told_fault : (n : ℕ) (q : Place) → n < length places → q ≡ get_or places n q → q.fault ≡ fault_of h n
  told_fault n q lt is =
      let t : Tells setup (kept_policy_at setup places n) q (place_at h n) = found_at n q lt is in
      t.fault
      ∙ ap (λ s. first_fault (kept_policy_at setup places n) s q.admitted.carried (accesses_of (kept.task_of q.admitted))) (sym t.subject)
      ∙ ap (λ c. first_fault (kept_policy_at setup places n) (place_at h n).subject c (accesses_of (kept.task_of q.admitted))) (sym t.carried)
      ∙ ap (λ (k : Task). first_fault (kept_policy_at setup places n) (place_at h n).subject (place_at h n).carried (accesses_of k)) (sym t.task)
      ∙ ap (λ b. cond b (first_fault (kept_policy_at setup places n) (place_at h n).subject (place_at h n).carried (accesses_of (place_at h n).task)) None) (sym (below n lt))

  pub told_children : (n : ℕ) (q : Place) → n < length places → q ≡ get_or places n q
      → cond (is_some q.children) (Some (length (spawned_of q.children))) None ≡ children_of h n
  told_children n q lt is =
      let t : Tells setup (kept_policy_at setup places n) q (place_at h n) = found_at n q lt is in
      ap (λ b. cond b (Some (length (spawned_of q.children))) None) t.ran
      ∙ ap (λ xs. cond (is_done (place_at h n).answer) (Some (length xs)) None) t.spawned
      ∙ ap (λ b. cond (b && is_done (place_at h n).answer) (Some (length (children (place_at h n).effects))) None) (sym (below n lt))

  pub told_spawned : (n : ℕ) (q : Place) → n < length places → q ≡ get_or places n q → spawned_of q.children ≡ spawned_by h n
  told_spawned n q lt is =
      let t : Tells setup (kept_policy_at setup places n) q (place_at h n) = found_at n q lt is in
      t.spawned ∙ ap (λ b. cond b (children (place_at h n).effects) []) (sym (below n lt))

  pub told_few : (n : ℕ) (q : Place) → n < length places → q ≡ get_or places n q → length (spawned_of q.children) ≤ 32
  told_few n q lt is =
      let t : Tells setup (kept_policy_at setup places n) q (place_at h n) = found_at n q lt is in
      let few : length (children (place_at h n).effects) ≤ length (script_of q.admitted.work) = t.few in
      let script : length (script_of q.admitted.work) ≤ 32 = few_behaviours q.admitted.work t.right.script in
      omega (arith, ap length t.spawned)

  -- the policy has the setup's subjects and documents
  pub ruled : AsMany setup.policy policy
  ruled = subst (AsMany setup.policy) (sym sound.ruled) (as_many_ruled setup (pasts_of setup places))

  -- one entry more
  module _ (e : Entry) (a : Admitted) (j : Judged) (now : SecurityPolicy) (left : List (List ℕ)) (knows : Knows setup e) (is : IsAdmitted places e a) (script : HasScript a.work)
      (judged : IsJudged policy contents (case_of a (kept.task_of a)) j) (made : now ≡ changed j.answer (kept.task_of a) a.subject policy)
      (leaves : Leaves contents (content_behind contents (record_of policy contents (case_of a (kept.task_of a)))) left) where
    coming : IsNext setup (pasts_of setup places) a
    coming = next e a knows is script

    -- what is kept of it
    abbrev kept_now : Place
    kept_now = place_of a (carried_by_children setup.version (current_of policy a.subject) a.carried) j

    abbrev more : List Place
    more = places ++ kept_now ∷ []

    pub next_sound : IsSound setup now left more
    next_sound = sound_more setup policy contents places a j now left sound coming judged made leaves

    pub next_answer : j.answer ≡ answer_at (heard_of setup more) (length places)
    next_answer = answer_more setup policy contents places a j now left sound coming judged made leaves

    pub next_ids : KnowsAnswer setup j.answer
    next_ids =
        subst (KnowsAnswer setup) (sym judged.answer)
        (answer_known setup a.lost (fault_of_task policy a.subject a.carried (kept.task_of a)) (kept.task_of a) (deeds (kept.task_of a) (content_listed contents))
        (task_ids setup policy a.subject a.carried coming.right.subject a.work a.index coming.right.ids))

  -- what a judge asks for
  pub next_known : (e : Entry) (a : Admitted) → Knows setup e → IsAdmitted places e a → HasScript a.work → KnowsEntry policy contents a
  next_known e a knows is script =
      let n : IsNext setup (pasts_of setup places) a = next e a knows is script in
      record {
        subject = subst (λ count. a.subject < count) (sym ruled.subjects) n.right.subject;
        ids = subst (λ count. HasBelow count (length policy.documents) a.work a.index) (sym ruled.subjects)
            (subst (λ count. HasBelow (length setup.policy.subjects) count a.work a.index) (sym ruled.documents) n.right.ids);
        as_many = ruled.documents ∙ sym sound.agree.documents ∙ sound.agree.contents ∙ sym sound.as_many;
      }
