-- A monitor stays sound by one entry more, and answers it as the definitions of the order say.
use Rattle.std.proofs.Common.{◌≡◌, ℕ, zero, suc, ◌<◌, Bool, true, false, cond, List, [], ◌∷◌, ◌++◌, length, get_or, refl, sym, ◌∙◌, ap, subst, arith, ◌⊎◌, inl, inr, length-append, add-one}
use Rattle.std.specs.Prelude.{◌==◌, ◌||◌, ◌≤◌, All, map, slice_index_or}
use mathlib.Core.Path.{fun_ext}
use Rattle.std.proofs.Math.ListN.{get_or-append}
use Rattle.std.proofs.lemmas.Bool.Decides.{eqb_tells}
use Rattle.std.proofs.lemmas.List.{map-append}
use Rattle.std.proofs.lemmas.List.Elements.{All-head, All-tail, All-get_or}
use Rattle.bl_level.specs.Level.{SecurityLevel}
use Rattle.bl_policy.specs.Policy.{SecurityPolicy, current_of}
use Rattle.bl_policy.specs.RuleEffect.{after_rule}
use Rattle.bl_policy.proofs.Rules.{AsMany, as_many-after}
use Rattle.bl_policy.specs.declared.access.Access.{Access}
use Rattle.bl_work.specs.Effects.{Effect, effects_of}
use Rattle.bl_work.specs.Statements.{Part, no_part}
use Rattle.bl_work.specs.declared.answer.Answer.{Answer}
use Rattle.bl_work.specs.declared.work.Work.{Work}
use Rattle.bl_work.specs.declared.work.Work.TheVariants as work
use Rattle.bl_setup.specs.Agreement.{Agree}
use Rattle.bl_setup.specs.Setup.{Setup, by_version}
use Rattle.bl_setup.specs.declared.version.Version.{Version}
use Rattle.bl_order.specs.Order.{Entry, Task, Runs, Applies, is_declared}
use Rattle.bl_order.specs.Past.{Past, at_place, was_lost, changed, policy_of, content_of, earlier, place, past_of, judged, deeds, leaves, lent, is_done, subject_of, carried_of, task_of, first_task, child_task, no_entry}
use Rattle.bl_order.proofs.Places.{earlier-grown}
use Rattle.bl_order.proofs.PlaceLaws.{earlier-lost}
use Rattle.bl_monitor.specs.declared.place.Admitted.{Admitted}
use Rattle.bl_monitor.specs.declared.place.Place.{Place}
use Rattle.bl_monitor.specs.declared.judge.Judged.{Judged}
use Rattle.bl_monitor.specs.Heard.{Heard, is_lost}
use Rattle.bl_order.specs.Known.{AreBelow}
use Rattle.bl_monitor.specs.Undoing.{content_listed}
use Rattle.bl_monitor.specs.Judging.{HasBelow, Leaves, carried_by_children, case_of, content_behind, record_of, IsJudged}
use Rattle.bl_monitor.specs.Places as kept
use Rattle.bl_monitor.specs.Places.{no_place, place_of, script_of, HasScript}
use Rattle.bl_monitor.specs.Sound.{heard_of, pasts_of, kept_policy_at, IsRight, Tells, IsSound}
use Rattle.bl_monitor.proofs.Spawns.{Spawns, spawns, no_spawns}

-- no task adds or drops a subject or a document
as_many_changed : (a : Answer) (t : Task) (s : ℕ) (p : SecurityPolicy) → AsMany p (changed a t s p)
as_many_changed a (Runs script index) s p = record { subjects = refl; documents = refl }
as_many_changed a (Applies rule) s p = go (was_lost a)
  where
    go : (b : Bool) → AsMany p (cond b p (after_rule p s rule))
    go true = record { subjects = refl; documents = refl }
    go false = as_many-after p s rule

pub as_many_ruled : (setup : Setup) (pasts : List Past) → AsMany setup.policy (policy_of setup pasts)
as_many_ruled setup [] = record { subjects = refl; documents = refl }
as_many_ruled setup (p ∷ pasts) =
    let before : AsMany setup.policy (policy_of setup pasts) = as_many_ruled setup pasts in
    let now : AsMany (policy_of setup pasts) (changed p.answer p.task p.subject (policy_of setup pasts)) = as_many_changed p.answer p.task p.subject (policy_of setup pasts) in
    record { subjects = now.subjects ∙ before.subjects; documents = now.documents ∙ before.documents }

pub length-pasts : (setup : Setup) (lost : ℕ → Bool) (order : List Entry) (n : ℕ) → length (earlier setup lost order n) ≡ n
length-pasts setup lost order zero = refl
length-pasts setup lost order (suc n) = ap suc (length-pasts setup lost order n)

pub length-mapped : {X Y : Type 0} (f : X → Y) (xs : List X) → length (map f xs) ≡ length xs
length-mapped f [] = refl
length-mapped f (x ∷ xs) = ap suc (length-mapped f xs)

last : {X : Type 0} (xs : List X) (x d : X) → get_or (xs ++ x ∷ []) (length xs) d ≡ x
last [] x d = refl
last (y ∷ xs) x d = last xs x d

-- what is lent is the same of contents that agree where documents are
same_lent : (count : ℕ) (accesses : List Access) (f g : ℕ → List ℕ) → All (λ (a : Access). a.doc < count) accesses
    → ((doc : ℕ) → doc < count → f doc ≡ g doc) → (doc : ℕ) → lent accesses f doc ≡ lent accesses g doc
same_lent count accesses f g all same doc = go (is_declared accesses doc) (below accesses all)
  where
    below : (xs : List Access) → All (λ (a : Access). a.doc < count) xs → is_declared xs doc ≡ true → doc < count
    below [] h e = cc
    below (a ∷ xs) h e = one (eqb_tells a.doc doc) (below xs (All-tail (λ (x : Access). x.doc < count) a xs h)) (All-head (λ (a : Access). a.doc < count) a xs h) e
      where
        one : (((a.doc == doc) ≡ true) × (a.doc ≡ doc)) ⊎ (((a.doc == doc) ≡ false) × (a.doc ≡ doc → ⊥)) → (is_declared xs doc ≡ true → doc < count)
            → a.doc < count → is_declared (a ∷ xs) doc ≡ true → doc < count
        one (inl p) rest lt e = omega (arith, p.1)
        one (inr p) rest lt e = rest (sym (ap (λ b. b || is_declared xs doc) p.0) ∙ e)

    go : (b : Bool) → (b ≡ true → doc < count) → cond b (f doc) [] ≡ cond b (g doc) []
    go false h = refl
    go true h = same doc (h refl)

module _ (setup : Setup) (places : List Place) (p : Place) where
  abbrev heard : Heard
  heard = heard_of setup places

  abbrev more : List Place
  more = places ++ p ∷ []

  abbrev pasts : List Past
  pasts = pasts_of setup places

  abbrev next_past : Past
  next_past = past_of setup p.admitted.lost pasts (kept.entry_of p.admitted)

  abbrev lost' : ℕ → Bool
  lost' = is_lost (heard_of setup more)

  abbrev order' : List Entry
  order' = (heard_of setup more).order

  order_grows : order' ≡ heard.order ++ kept.entry_of p.admitted ∷ []
  order_grows = map-append (λ (q : Place). kept.entry_of q.admitted) places (p ∷ [])

  lost_grows : (heard_of setup more).lost ≡ heard.lost ++ p.admitted.lost ∷ []
  lost_grows = map-append (λ (q : Place). q.admitted.lost) places (p ∷ [])

  -- the places before the new one keep their records
  earlier_more : (n : ℕ) → n ≤ length places → earlier setup lost' order' n ≡ earlier setup (is_lost heard) heard.order n
  earlier_more n le =
      earlier-lost setup lost' (is_lost heard) order' n (λ k lt. lost_before k (omega arith))
      ∙ ap (λ o. earlier setup (is_lost heard) o n) order_grows
      ∙ earlier-grown setup (is_lost heard) heard.order (kept.entry_of p.admitted ∷ []) n
      (omega (arith, length-mapped (λ (q : Place). kept.entry_of q.admitted) places))
    where
      lost_before : (k : ℕ) → k < length places → lost' k ≡ is_lost heard k
      lost_before k lt =
          ap (λ l. get_or l k false) lost_grows
          ∙ get_or-append heard.lost (p.admitted.lost ∷ []) false k (omega (arith, length-mapped (λ (q : Place). q.admitted.lost) places))

  -- and so they find the same policy
  pub policy_more : (n : ℕ) → n ≤ length places → kept_policy_at setup more n ≡ kept_policy_at setup places n
  policy_more n le = ap (policy_of setup) (earlier_more n le)

  -- the new place stands behind them
  pub pasts_more : pasts_of setup more ≡ next_past ∷ pasts
  pasts_more =
      ap (λ n. earlier setup lost' order' n) (length-append places (p ∷ []) ∙ add-one (length places))
      ∙ ap (λ h. past_of setup (lost' (length places)) h (get_or order' (length places) no_entry) ∷ h) (earlier_more (length places) (omega arith))
      ∙ ap (λ b. past_of setup b pasts (get_or order' (length places) no_entry) ∷ pasts) lost_here
      ∙ ap (λ e. past_of setup p.admitted.lost pasts e ∷ pasts) entry_here
    where
      lost_here : lost' (length places) ≡ p.admitted.lost
      lost_here =
          ap (λ l. get_or l (length places) false) lost_grows
          ∙ ap (λ n. get_or (heard.lost ++ p.admitted.lost ∷ []) n false) (sym (length-mapped (λ (q : Place). q.admitted.lost) places))
          ∙ last heard.lost p.admitted.lost false

      entry_here : get_or order' (length places) no_entry ≡ kept.entry_of p.admitted
      entry_here =
          ap (λ o. get_or o (length places) no_entry) order_grows
          ∙ ap (λ n. get_or (heard.order ++ kept.entry_of p.admitted ∷ []) n no_entry) (sym (length-mapped (λ (q : Place). kept.entry_of q.admitted) places))
          ∙ last heard.order (kept.entry_of p.admitted) no_entry

  -- what is said of the new place
  pub place_more : place setup (is_lost (heard_of setup more)) (heard_of setup more).order (length places) ≡ next_past
  place_more = ap (λ h. head_of h) all
    where
      head_of : List Past → Past
      head_of [] = next_past
      head_of (q ∷ qs) = q

      all : earlier setup (is_lost (heard_of setup more)) (heard_of setup more).order (suc (length places)) ≡ next_past ∷ pasts
      all = ap (λ n. earlier setup (is_lost (heard_of setup more)) (heard_of setup more).order n) (sym (length-append places (p ∷ []) ∙ add-one (length places))) ∙ pasts_more

-- a setup of another version is as much one whole
pub agree_of_version : (v : Version) (setup : Setup) → Agree setup → Agree (by_version v setup)
agree_of_version v setup agree = record {
  subjects = agree.subjects;
  documents = agree.documents;
  presence = agree.presence;
  contents = agree.contents;
  absent = agree.absent;
}

-- before the first entry all is as the setup has it
pub first_sound : (setup : Setup) (policy : SecurityPolicy) (contents : List (List ℕ)) → Agree setup → policy ≡ setup.policy → contents ≡ setup.contents
    → IsSound setup policy contents []
first_sound setup policy contents agree ruled current = record {
  agree = agree;
  ruled = ruled;
  as_many = ap length current;
  current = λ doc lt. ap (λ cs. content_listed cs doc) current;
  told = λ k lt. absurd (omega (arith, lt));
}

-- the accesses of an entry's behaviour
pub declared : (count : ℕ) (script : List Part) (index : ℕ) → AreBelow count script → index < length script
    → All (λ (a : Access). a.doc < count) (slice_index_or script index no_part).accesses
declared count script index all lt = All-get_or (λ (part : Part). All (λ (a : Access). a.doc < count) part.accesses) script index no_part lt all

-- what is done rests on the contents of the documents that are there
same_deeds : (subjects count : ℕ) (w : Work) (index : ℕ) (f g : ℕ → List ℕ) → HasBelow subjects count w index → ((doc : ℕ) → doc < count → f doc ≡ g doc)
    → deeds (child_task (first_task w) index) f ≡ deeds (child_task (first_task w) index) g
same_deeds subjects count (work.Behaviour script) index f g there same =
    ap (λ c. effects_of c (slice_index_or script index no_part).body)
    (fun_ext (same_lent count (slice_index_or script index no_part).accesses f g (declared count script index there.0 there.1) same))
same_deeds subjects count (work.Rule rule) index f g there same = refl

-- what is known of an entry that is admitted after these records
pub record IsNext (setup : Setup) (pasts : List Past) (a : Admitted) : Type 0 where
  pub right : IsRight setup a
  pub subject : subject_of pasts (kept.entry_of a) ≡ a.subject
  pub carried : carried_of setup.version pasts (kept.entry_of a) ≡ a.carried
  pub task : task_of pasts (kept.entry_of a) ≡ kept.task_of a

-- the record of an entry, by what is kept
pub same_past : (setup : Setup) (policy : SecurityPolicy) (contents : List (List ℕ)) (pasts : List Past) (a : Admitted) → IsNext setup pasts a
    → policy ≡ policy_of setup pasts
    → length setup.policy.documents ≡ length contents
    → ((doc : ℕ) → doc < length contents → content_listed contents doc ≡ content_of setup pasts doc)
    → past_of setup a.lost pasts (kept.entry_of a) ≡ record_of policy contents (case_of a (kept.task_of a))
same_past setup policy contents pasts a next ruled many same =
    ap (λ t. judged a.lost (policy_of setup pasts) (deeds t (content_of setup pasts)) (subject_of pasts (kept.entry_of a)) (carried_of setup.version pasts (kept.entry_of a)) t) next.task
    ∙ ap (λ s. judged a.lost (policy_of setup pasts) (deeds its_task (content_of setup pasts)) s (carried_of setup.version pasts (kept.entry_of a)) its_task) next.subject
    ∙ ap (λ c. judged a.lost (policy_of setup pasts) (deeds its_task (content_of setup pasts)) a.subject c its_task) next.carried
    ∙ ap (λ p. judged a.lost p (deeds its_task (content_of setup pasts)) a.subject a.carried its_task) (sym ruled)
    ∙ ap (λ es. judged a.lost policy es a.subject a.carried its_task)
    (same_deeds (length setup.policy.subjects) (length setup.policy.documents) a.work a.index (content_of setup pasts) (content_listed contents) next.right.ids
    (λ doc lt. sym (same doc (omega arith))))
  where
    its_task : Task
    its_task = kept.task_of a

-- what is done spawns behaviours of its script
work_spawns : (subjects documents : ℕ) (w : Work) (index : ℕ) (contents : ℕ → List ℕ) → HasScript w → HasBelow subjects documents w index
    → Spawns (script_of w) (deeds (child_task (first_task w) index) contents)
work_spawns subjects documents (work.Behaviour script) index contents right there = spawns script index _ right there.1
work_spawns subjects documents (work.Rule rule) index contents right there = no_spawns []

-- what ran or did not spawns behaviours of its script
record_spawns : (b : Bool) (effects : List Effect) (script : List Part) → Spawns script effects → Spawns script (cond b effects [])
record_spawns true effects script s = s
record_spawns false effects script s = no_spawns script

module _ (setup : Setup) (policy : SecurityPolicy) (contents : List (List ℕ)) (places : List Place) (a : Admitted) (j : Judged) (now : SecurityPolicy)
    (left : List (List ℕ))
    (sound : IsSound setup policy contents places) (next : IsNext setup (pasts_of setup places) a)
    (is : IsJudged policy contents (case_of a (kept.task_of a)) j)
    (made : now ≡ changed j.answer (kept.task_of a) a.subject policy)
    (stands : Leaves contents (content_behind contents (record_of policy contents (case_of a (kept.task_of a)))) left) where
  -- what its children carry
  abbrev on : SecurityLevel
  on = carried_by_children setup.version (current_of policy a.subject) a.carried

  abbrev added_place : Place
  added_place = place_of a on j

  abbrev added_past : Past
  added_past = record_of policy contents (case_of a (kept.task_of a))

  many : length setup.policy.documents ≡ length contents
  many = sym sound.agree.documents ∙ sound.agree.contents ∙ sym sound.as_many

  next_is : past_of setup a.lost (pasts_of setup places) (kept.entry_of a) ≡ added_past
  next_is = same_past setup policy contents (pasts_of setup places) a next sound.ruled many sound.current

  pasts_are : pasts_of setup (places ++ added_place ∷ []) ≡ added_past ∷ pasts_of setup places
  pasts_are = pasts_more setup places added_place ∙ ap (λ q. q ∷ pasts_of setup places) next_is

  -- the answer
  pub answer_more : j.answer ≡ (place setup (is_lost (heard_of setup (places ++ added_place ∷ []))) (heard_of setup (places ++ added_place ∷ [])).order (length places)).answer
  answer_more = is.answer ∙ ap (λ (q : Past). q.answer) (sym (place_more setup places added_place ∙ next_is))

  -- the policy
  ruled_more : now ≡ policy_of setup (pasts_of setup (places ++ added_place ∷ []))
  ruled_more =
      made
      ∙ ap (λ b. changed b (kept.task_of a) a.subject policy) is.answer
      ∙ ap (changed added_past.answer (kept.task_of a) a.subject) sound.ruled
      ∙ ap (policy_of setup) (sym pasts_are)

  here : Tells setup policy added_place added_past
  here =
      let s : Spawns (script_of a.work) added_past.effects =
      record_spawns (is_done added_past.answer) (deeds (kept.task_of a) (content_listed contents)) (script_of a.work)
      (work_spawns (length setup.policy.subjects) (length setup.policy.documents) a.work a.index (content_listed contents) next.right.script next.right.ids) in
      record {
        right = next.right;
        subject = refl;
        carried = refl;
        by_children = refl;
        task = refl;
        fault = is.fault;
        ran = is.ran;
        spawned = is.spawned;
        each = s.each;
        few = s.few;
      }

  pub sound_more : IsSound setup now left (places ++ added_place ∷ [])
  sound_more = record {
    agree = sound.agree;
    ruled = ruled_more;
    as_many = stands.as_many ∙ sound.as_many;
    current = λ doc lt.
        stands.left doc (omega (arith, stands.as_many))
        ∙ ap (leaves added_past doc) (sound.current doc (omega (arith, stands.as_many)))
        ∙ ap (λ h. content_of setup h doc) (sym pasts_are);
    told = λ k lt.
        subst (λ p. Tells setup p (get_or (places ++ added_place ∷ []) k no_place) (at_place (pasts_of setup (places ++ added_place ∷ [])) k))
        (sym (policy_more setup places added_place k (omega (arith, length-append places (added_place ∷ [])))))
        (go k lt (eqb_tells k (length (pasts_of setup places))));
  }
    where
      count : length (pasts_of setup places) ≡ length places
      count = length-pasts setup (is_lost (heard_of setup places)) (heard_of setup places).order (length places)

      go : (k : ℕ) → k < length (places ++ added_place ∷ []) → (((k == length (pasts_of setup places)) ≡ true) × (k ≡ length (pasts_of setup places))) ⊎ (((k == length (pasts_of setup places)) ≡ false) × (k ≡ length (pasts_of setup places) → ⊥))
          → Tells setup (kept_policy_at setup places k) (get_or (places ++ added_place ∷ []) k no_place) (at_place (pasts_of setup (places ++ added_place ∷ [])) k)
      go k lt (inl e) =
          subst (λ h. Tells setup (kept_policy_at setup places k) (get_or (places ++ added_place ∷ []) k no_place) (at_place h k)) (sym pasts_are)
          (subst (λ b. Tells setup (kept_policy_at setup places k) (get_or (places ++ added_place ∷ []) k no_place) (cond b added_past (at_place (pasts_of setup places) k))) (sym e.0)
          (subst (λ n. Tells setup (kept_policy_at setup places n) (get_or (places ++ added_place ∷ []) n no_place) added_past) (sym (e.1 ∙ count))
          (subst (λ q. Tells setup (kept_policy_at setup places (length places)) q added_past) (sym (last places added_place no_place))
          (subst (λ p. Tells setup p added_place added_past) sound.ruled here))))
      go k lt (inr e) =
          let before : k < length places = omega (arith, e.1, count, length-append places (added_place ∷ [])) in
          subst (λ h. Tells setup (kept_policy_at setup places k) (get_or (places ++ added_place ∷ []) k no_place) (at_place h k)) (sym pasts_are)
          (subst (λ b. Tells setup (kept_policy_at setup places k) (get_or (places ++ added_place ∷ []) k no_place) (cond b added_past (at_place (pasts_of setup places) k))) (sym e.0)
          (subst (λ q. Tells setup (kept_policy_at setup places k) q (at_place (pasts_of setup places) k)) (sym (get_or-append places (added_place ∷ []) no_place k before)) (sound.told k before)))
