-- What the record of a place says.
use Rattle.std.proofs.Common.{◌≡◌, ℕ, zero, suc, ◌-◌, ◌<◌, ◌≤◌, Bool, true, false, cond, ◌&&◌, ◌||◌, not, List, [], ◌∷◌, length, map, refl, sym, ◌∙◌, ap, inl, inr, arith, ◌⊎◌, true≢false, get_or, eqb-true}
use Rattle.std.specs.Prelude.{◌==◌, Option, Some, None, slice_get, slice_index_or, nat_lt}
use Rattle.bl_level.specs.Level.{SecurityLevel, join_of}
use Rattle.bl_policy.specs.Policy.{SecurityPolicy, lowest}
use Rattle.bl_policy.specs.RuleEffect.{rule_fault, rule_makes, unless_failed, after_rule}
use Rattle.bl_policy.specs.declared.denial.Denial.{Denial}
use Rattle.bl_policy.specs.declared.rule.Rule.{Rule}
use Rattle.bl_work.specs.Effects.{Effect, children}
use Rattle.bl_work.specs.declared.answer.Answer.TheVariants.{RuleDone, Denied, Lost}
use Rattle.bl_setup.specs.Setup.{Setup}
use Rattle.bl_setup.specs.declared.version.Version.{Version}
use Rattle.bl_setup.specs.declared.version.Version.TheVariants.{One, Two}
use Rattle.bl_work.specs.declared.work.Work.{Work}
use Rattle.bl_order.specs.Order.{Entry, Child, Task, Runs, Applies, is_rule, conflict, Line, unnamed}
use Rattle.bl_order.specs.Past.{Past, earlier, place, past_of, no_entry, policy_of, content_of, leaves, at_place, subject_of, carried_of, task_of, child_task, deeds, judged, answer_of, was_lost, fault_of_task, changed}
use Rattle.bl_order.specs.Laws.{IsAnswered, IsClosed, KeepsAnswers, LooksBack, lost_too, RulesMakeThePolicy, fault_at, wrote_or_deleted}
use Rattle.bl_order.specs.Machine.{State, past_at, has_ended, phase_at, MayStart, may_start, is_clear, is_waiting}
use Rattle.std.proofs.lemmas.Bool.Decides.{nat_tests}
use Rattle.bl_order.proofs.Places.{at_place-earlier, less_or_equal, place-grown}
use Rattle.bl_order.proofs.Leaving.{leaves-untouched, leaves-wrote, leaves-deleted}
use Rattle.bl_order.proofs.StateLaws.{changed-skips}
use Rattle.bl_order.proofs.Sound.{HasParent}
use Rattle.bl_order.proofs.Frame.{place-alike}

-- ---- answers

pub answered : (setup : Setup) (lost : ℕ → Bool) (order : List Entry) (n : ℕ) → IsAnswered setup lost order n
answered setup lost order n = record {
  gone = λ h. ap (λ b. answer_of b (fault_at setup lost order n) task all) h;
  refused = λ denial h k. ap (λ b. answer_of b (fault_at setup lost order n) task all) h ∙ ap (λ fault. answer_of false fault task all) k;
  let_run = λ h k. ap (λ b. answer_of b (fault_at setup lost order n) task all) h ∙ ap (λ fault. answer_of false fault task all) k;
  deeds_done = λ h. ap (λ b. cond b all []) h;
  nothing_done = λ h. ap (λ b. cond b all []) h;
}
  where
    task : Task
    task = (place setup lost order n).task

    all : List Effect
    all = deeds (place setup lost order n).task (content_of setup (earlier setup lost order n))

-- ---- what a place rests on

pub earlier-lost : (setup : Setup) (l m : ℕ → Bool) (order : List Entry) (n : ℕ) → ((k : ℕ) → k < n → l k ≡ m k) → earlier setup l order n ≡ earlier setup m order n
earlier-lost setup l m order zero same = refl
earlier-lost setup l m order (suc n) same =
    ap (λ b. past_of setup b (earlier setup l order n) (get_or order n no_entry) ∷ earlier setup l order n) (same n (omega arith))
    ∙ ap (λ h. past_of setup (m n) h (get_or order n no_entry) ∷ h) (earlier-lost setup l m order n (λ k lt. same k (omega arith)))

pub place-lost : (setup : Setup) (l m : ℕ → Bool) (order : List Entry) (n : ℕ) → ((k : ℕ) → k ≤ n → l k ≡ m k) → place setup l order n ≡ place setup m order n
place-lost setup l m order n same =
    ap (λ b. past_of setup b (earlier setup l order n) (get_or order n no_entry)) (same n (omega arith))
    ∙ ap (λ h. past_of setup (m n) h (get_or order n no_entry)) (earlier-lost setup l m order n (λ k lt. same k (omega arith)))

-- ---- sessions and ordinals

carried-unnamed : (v : Version) (h : List Past) (session ordinal subject : ℕ) (work : Work)
    → carried_of v h (Line 0 0 subject work) ≡ carried_of v h (Line session ordinal subject work)
carried-unnamed One h session ordinal subject work = refl
carried-unnamed Two h session ordinal subject work = refl

past-unnamed : (setup : Setup) (lost : Bool) (h : List Past) (e : Entry) → past_of setup lost h (unnamed e) ≡ past_of setup lost h e
past-unnamed setup lost h (Line session ordinal subject work) =
    ap (λ c. judged lost (policy_of setup h) (deeds (task_of h (Line 0 0 subject work)) (content_of setup h)) subject c (task_of h (Line 0 0 subject work)))
    (carried-unnamed setup.version h session ordinal subject work)
past-unnamed setup lost h (Child parent which) = refl

get-unnamed : (order : List Entry) (n : ℕ) → get_or (map unnamed order) n no_entry ≡ unnamed (get_or order n no_entry)
get-unnamed [] n = refl
get-unnamed (x ∷ order) zero = refl
get-unnamed (x ∷ order) (suc n) = get-unnamed order n

earlier-unnamed : (setup : Setup) (lost : ℕ → Bool) (order : List Entry) (n : ℕ) → earlier setup lost (map unnamed order) n ≡ earlier setup lost order n
earlier-unnamed setup lost order zero = refl
earlier-unnamed setup lost order (suc n) =
    ap (λ e. past_of setup (lost n) (earlier setup lost (map unnamed order) n) e ∷ earlier setup lost (map unnamed order) n) (get-unnamed order n)
    ∙ ap (λ p. p ∷ earlier setup lost (map unnamed order) n) (past-unnamed setup (lost n) (earlier setup lost (map unnamed order) n) (get_or order n no_entry))
    ∙ ap (λ h. past_of setup (lost n) h (get_or order n no_entry) ∷ h) (earlier-unnamed setup lost order n)

pub place-unnamed : (setup : Setup) (lost : ℕ → Bool) (order : List Entry) (n : ℕ) → place setup lost (map unnamed order) n ≡ place setup lost order n
place-unnamed setup lost order n =
    ap (λ e. past_of setup (lost n) (earlier setup lost (map unnamed order) n) e) (get-unnamed order n)
    ∙ past-unnamed setup (lost n) (earlier setup lost (map unnamed order) n) (get_or order n no_entry)
    ∙ ap (λ h. past_of setup (lost n) h (get_or order n no_entry)) (earlier-unnamed setup lost order n)

-- ---- looking back

module _ (setup : Setup) (lost : ℕ → Bool) (order : List Entry) (doc : ℕ) where
  pub content-first : (n : ℕ) → ((k : ℕ) → k < n → wrote_or_deleted setup lost order doc k ≡ false)
      → content_of setup (earlier setup lost order n) doc ≡ slice_index_or setup.contents doc []
  content-first zero none = refl
  content-first (suc n) none =
      leaves-untouched (place setup lost order n) doc (content_of setup (earlier setup lost order n) doc) (none n (omega arith))
      ∙ content-first n (λ k lt. none k (omega arith))

  -- what a place left stands until another writes the document or deletes it
  content-left : (m n : ℕ) → m < n → ((k : ℕ) → m < k → k < n → wrote_or_deleted setup lost order doc k ≡ false)
      → content_of setup (earlier setup lost order n) doc ≡ leaves (place setup lost order m) doc (content_of setup (earlier setup lost order m) doc)
  content-left m zero lt none = absurd (omega arith)
  content-left m (suc n) lt none = go (less_or_equal m n lt) (λ below. content-left m n below (λ k above under. none k above (omega arith)))
    where
      go : (m < n) ⊎ (m ≡ n) → (m < n → content_of setup (earlier setup lost order n) doc ≡ leaves (place setup lost order m) doc (content_of setup (earlier setup lost order m) doc))
          → content_of setup (earlier setup lost order (suc n)) doc ≡ leaves (place setup lost order m) doc (content_of setup (earlier setup lost order m) doc)
      go (inl below) deeper =
          leaves-untouched (place setup lost order n) doc (content_of setup (earlier setup lost order n) doc) (none n below (omega arith))
          ∙ deeper below
      go (inr same) deeper = ap (λ k. leaves (place setup lost order k) doc (content_of setup (earlier setup lost order k) doc)) (sym same)

  pub looks-back : (n : ℕ) → LooksBack setup lost order doc n
  looks-back n = record {
    untouched = content-first n;
    last_wrote = λ m lt here none.
        content-left m n lt none ∙ leaves-wrote (place setup lost order m) doc (content_of setup (earlier setup lost order m) doc) here;
    last_deleted = λ m lt here none.
        content-left m n lt none ∙ leaves-deleted (place setup lost order m) doc (content_of setup (earlier setup lost order m) doc) here;
  }

-- ---- rules

-- what is denied is a task that the policy has this against, and changes nothing
denied_changes : (b : Bool) (p : SecurityPolicy) (s : ℕ) (carried : SecurityLevel) (t : Task) (es : List Effect) (denial : Denial)
    → answer_of b (fault_of_task p s carried t) t es ≡ Denied denial → changed (answer_of b (fault_of_task p s carried t) t es) t s p ≡ p
denied_changes b p s carried (Runs script index) es denial h = refl
denied_changes b p s carried (Applies rule) es denial h = go b (rule_fault p s rule) h refl
  where
    go : (c : Bool) (f : Option Denial) → answer_of c f (Applies rule) es ≡ Denied denial → rule_fault p s rule ≡ f → changed (answer_of c f (Applies rule) es) (Applies rule) s p ≡ p
    go true f k is = refl
    go false None k is = absurd (cc)
    go false (Some d) k is = ap (λ o. unless_failed o (rule_makes p s rule) p) is

-- a rule that is done makes its change
done_makes : (b : Bool) (p : SecurityPolicy) (s : ℕ) (rule : Rule) (es : List Effect) → answer_of b (rule_fault p s rule) (Applies rule) es ≡ RuleDone
    → changed (answer_of b (rule_fault p s rule) (Applies rule) es) (Applies rule) s p ≡ rule_makes p s rule
done_makes b p s rule es h = go b (rule_fault p s rule) h refl
  where
    go : (c : Bool) (f : Option Denial) → answer_of c f (Applies rule) es ≡ RuleDone → rule_fault p s rule ≡ f → changed (answer_of c f (Applies rule) es) (Applies rule) s p ≡ rule_makes p s rule
    go true f k is = absurd (cc)
    go false (Some d) k is = absurd (cc)
    go false None k is = ap (λ o. unless_failed o (rule_makes p s rule) p) is

-- a task that is not lost changes the policy by its rule alone
kept_lost : (f : Option Denial) (t : Task) (es : List Effect) → was_lost (answer_of false f t es) ≡ false
kept_lost (Some d) t es = refl
kept_lost None (Runs script index) es = refl
kept_lost None (Applies rule) es = refl

lost_changes : (t : Task) (s : ℕ) (p : SecurityPolicy) → changed Lost t s p ≡ p
lost_changes (Runs script index) s p = refl
lost_changes (Applies rule) s p = refl

pub rules-make : (setup : Setup) (lost : ℕ → Bool) (order : List Entry) (n : ℕ) → RulesMakeThePolicy setup lost order n
rules-make setup lost order n = record {
  at_first = refl;
  by_a_rule = λ rule is kept.
      ap (λ t. changed (answer_of (lost n) (fault_of_task before subject carried t) t all) t subject before) is
      ∙ ap (λ b. changed (answer_of b (rule_fault before subject rule) (Applies rule) all) (Applies rule) subject before) kept
      ∙ ap (λ b. cond b before (after_rule before subject rule)) (kept_lost (rule_fault before subject rule) (Applies rule) all);
  by_one_that_is_done = λ rule is done.
      ap (λ t. changed (answer_of (lost n) (fault_of_task before subject carried t) t all) t subject before) is
      ∙ done_makes (lost n) before subject rule all (ap (λ t. answer_of (lost n) (fault_of_task before subject carried t) t all) (sym is) ∙ done);
  by_none_refused = λ denial h. denied_changes (lost n) before subject carried (place setup lost order n).task all denial h;
  by_none_lost = λ gone.
      ap (λ b. changed (answer_of b (fault_at setup lost order n) (place setup lost order n).task all) (place setup lost order n).task subject before) gone
      ∙ lost_changes (place setup lost order n).task subject before;
  by_no_behaviour = λ none. changed-skips (place setup lost order n).answer (place setup lost order n).task subject before none;
}
  where
    before : SecurityPolicy
    before = policy_of setup (earlier setup lost order n)

    subject : ℕ
    subject = (place setup lost order n).subject

    carried : SecurityLevel
    carried = (place setup lost order n).carried

    all : List Effect
    all = deeds (place setup lost order n).task (content_of setup (earlier setup lost order n))

pub policy-left : (setup : Setup) (lost : ℕ → Bool) (order : List Entry) (n : ℕ) → ((k : ℕ) → k < n → is_rule (place setup lost order k).task ≡ false) → policy_of setup (earlier setup lost order n) ≡ setup.policy
policy-left setup lost order zero none = refl
policy-left setup lost order (suc n) none =
    changed-skips (place setup lost order n).answer (place setup lost order n).task (place setup lost order n).subject (policy_of setup (earlier setup lost order n)) (none n (omega arith))
    ∙ policy-left setup lost order n (λ k lt. none k (omega arith))

-- ---- children

pub entry-at : (order : List Entry) (n : ℕ) (e : Entry) → slice_get order n ≡ Some e → get_or order n no_entry ≡ e
entry-at [] n e h = absurd (cc)
entry-at (x ∷ xs) zero e h = cc
entry-at (x ∷ xs) (suc n) e h = entry-at xs n e h

pub subject-child : (setup : Setup) (lost : ℕ → Bool) (order : List Entry) (n parent which : ℕ) → parent < n → slice_get order n ≡ Some (Child parent which) → (place setup lost order n).subject ≡ (place setup lost order parent).subject
subject-child setup lost order n parent which lt h =
    ap (subject_of (earlier setup lost order n)) (entry-at order n (Child parent which) h)
    ∙ ap (λ p. p.subject) (at_place-earlier setup lost order n parent lt)

pub task-child : (setup : Setup) (lost : ℕ → Bool) (order : List Entry) (n parent which : ℕ) → parent < n → slice_get order n ≡ Some (Child parent which)
    → (place setup lost order n).task ≡ child_task (place setup lost order parent).task (slice_index_or (children (place setup lost order parent).effects) (which - 1) 0)
task-child setup lost order n parent which lt h =
    ap (task_of (earlier setup lost order n)) (entry-at order n (Child parent which) h)
    ∙ ap (λ p. child_task p.task (slice_index_or (children p.effects) (which - 1) 0)) (at_place-earlier setup lost order n parent lt)

carried-by : (v : Version) (h : List Past) (parent which : ℕ) → v ≡ Two
    → carried_of v h (Child parent which) ≡ join_of (at_place h parent).level (at_place h parent).carried
carried-by One h parent which e = absurd (cc)
carried-by Two h parent which e = refl

carried-none : (v : Version) (h : List Past) (e : Entry) → v ≡ One → carried_of v h e ≡ lowest
carried-none One h e is = refl
carried-none Two h e is = absurd (cc)

carried-line : (v : Version) (h : List Past) (session ordinal subject : ℕ) (work : Work) → carried_of v h (Line session ordinal subject work) ≡ lowest
carried-line One h session ordinal subject work = refl
carried-line Two h session ordinal subject work = refl

-- a child carries its parent's level with what that carried
pub carried-child : (setup : Setup) (lost : ℕ → Bool) (order : List Entry) (n parent which : ℕ) → setup.version ≡ Two → parent < n → slice_get order n ≡ Some (Child parent which)
    → (place setup lost order n).carried ≡ join_of (place setup lost order parent).level (place setup lost order parent).carried
carried-child setup lost order n parent which two lt h =
    ap (carried_of setup.version (earlier setup lost order n)) (entry-at order n (Child parent which) h)
    ∙ carried-by setup.version (earlier setup lost order n) parent which two
    ∙ ap (λ p. join_of p.level p.carried) (at_place-earlier setup lost order n parent lt)

-- in version 1 nothing is carried
pub carried-nothing : (setup : Setup) (lost : ℕ → Bool) (order : List Entry) (n : ℕ) → setup.version ≡ One → (place setup lost order n).carried ≡ lowest
carried-nothing setup lost order n one = carried-none setup.version (earlier setup lost order n) (get_or order n no_entry) one

-- a line carries nothing
pub line-carries_nothing : (setup : Setup) (lost : ℕ → Bool) (order : List Entry) (n session ordinal subject : ℕ) (work : Work)
    → slice_get order n ≡ Some (Line session ordinal subject work) → (place setup lost order n).carried ≡ lowest
line-carries_nothing setup lost order n session ordinal subject work h =
    ap (carried_of setup.version (earlier setup lost order n)) (entry-at order n (Line session ordinal subject work) h)
    ∙ carried-line setup.version (earlier setup lost order n) session ordinal subject work

-- ---- who may start

and_both : (a b : Bool) → (a && b) ≡ true → (a ≡ true) × (b ≡ true)
and_both true b h = (refl, h)
and_both false b h = absurd (true≢false (sym h))

both_and : (a b : Bool) → a ≡ true → b ≡ true → (a && b) ≡ true
both_and true b h k = k
both_and false b h k = h

clear_there : (c e : Bool) → (not c || e) ≡ true → c ≡ true → e ≡ true
clear_there true e h k = h
clear_there false e h k = absurd (true≢false (sym k))

clear_if : (c e : Bool) → (c ≡ true → e ≡ true) → (not c || e) ≡ true
clear_if true e f = f refl
clear_if false e f = refl

clear-below : (x : State) (task : Task) (n : ℕ) → is_clear x task n ≡ true → (m : ℕ) → m < n → conflict (past_at x m).task task ≡ true → has_ended x m ≡ true
clear-below x task zero h m lt c = absurd (omega arith)
clear-below x task (suc n) h m lt c = go (less_or_equal m n lt) (clear-below x task n (and_both (not (conflict (past_at x n).task task) || has_ended x n) (is_clear x task n) h).1 m)
  where
    here : (not (conflict (past_at x n).task task) || has_ended x n) ≡ true
    here = (and_both (not (conflict (past_at x n).task task) || has_ended x n) (is_clear x task n) h).0

    go : (m < n) ⊎ (m ≡ n) → (m < n → conflict (past_at x m).task task ≡ true → has_ended x m ≡ true) → has_ended x m ≡ true
    go (inl below) deeper = deeper below c
    go (inr same) deeper = ap (has_ended x) same ∙ clear_there (conflict (past_at x n).task task) (has_ended x n) here (ap (λ k. conflict (past_at x k).task task) (sym same) ∙ c)

clear-from : (x : State) (task : Task) (n : ℕ) → ((m : ℕ) → m < n → conflict (past_at x m).task task ≡ true → has_ended x m ≡ true) → is_clear x task n ≡ true
clear-from x task zero each = refl
clear-from x task (suc n) each =
    both_and (not (conflict (past_at x n).task task) || has_ended x n) (is_clear x task n)
    (clear_if (conflict (past_at x n).task task) (has_ended x n) (each n (omega arith))) (clear-from x task n (λ m lt. each m (omega arith)))

less_from : (a b : ℕ) → nat_lt a b ≡ true → a < b
less_from a b h = grind (arith, nat_tests)

less_test : (a b : ℕ) → a < b → nat_lt a b ≡ true
less_test a b h = grind (arith, nat_tests)

pub may_start-is : (x : State) (n : ℕ) → (may_start x n ≡ true → MayStart x n) × (MayStart x n → may_start x n ≡ true)
may_start-is x n = (to, from)
  where
    to : may_start x n ≡ true → MayStart x n
    to h =
        let outer : ((nat_lt n (length x.order) && is_waiting (phase_at x n)) ≡ true) × (is_clear x (past_at x n).task n ≡ true) = and_both (nat_lt n (length x.order) && is_waiting (phase_at x n)) (is_clear x (past_at x n).task n) h in
        let inner : (nat_lt n (length x.order) ≡ true) × (is_waiting (phase_at x n) ≡ true) = and_both (nat_lt n (length x.order)) (is_waiting (phase_at x n)) outer.0 in
        record { there = less_from n (length x.order) inner.0; waits = inner.1; clear = clear-below x (past_at x n).task n outer.1 }

    from : MayStart x n → may_start x n ≡ true
    from may =
        both_and (nat_lt n (length x.order) && is_waiting (phase_at x n)) (is_clear x (past_at x n).task n)
        (both_and (nat_lt n (length x.order)) (is_waiting (phase_at x n)) (less_test n (length x.order) may.there) may.waits)
        (clear-from x (past_at x n).task n may.clear)

-- ---- ended places

get-within : (order : List Entry) (n : ℕ) → n < length order → slice_get order n ≡ Some (get_or order n no_entry)
get-within [] n lt = absurd (omega arith)
get-within (x ∷ xs) zero lt = refl
get-within (x ∷ xs) (suc n) lt = get-within xs n (omega arith)

parent-closed : (setup : Setup) (lost ended : ℕ → Bool) (order : List Entry) → IsClosed setup lost order ended → (n : ℕ) (e : Entry) → slice_get order n ≡ Some e → HasParent ended n e
parent-closed setup lost ended order closed n (Line session ordinal subject work) h = tt
parent-closed setup lost ended order closed n (Child parent which) h = closed.parents n parent which h

pub rests_on_ended : (setup : Setup) (lost others ended : ℕ → Bool) (order : List Entry) → IsClosed setup lost order ended → ((k : ℕ) → ended k ≡ true → lost k ≡ others k)
    → (n : ℕ) → n < length order → ended n ≡ true → place setup lost order n ≡ place setup others order n
rests_on_ended setup lost others ended order closed same n lt over =
    (place-alike setup order lost others ended same closed.conflicts
    (λ m at. parent-closed setup lost ended order closed m (get_or order m no_entry) (get-within order m at)) n lt).all over

-- ---- the frame law

not_the_same : (ended : ℕ → Bool) (m k : ℕ) → ended m ≡ false → ended k ≡ true → (b : Bool) → (b ≡ true → k ≡ m) → b ≡ false
not_the_same ended m k unended over true same = absurd (true≢false (sym over ∙ ap ended (same refl) ∙ unended))
not_the_same ended m k unended over false same = refl

or_nothing : (a b : Bool) → b ≡ false → a ≡ (a || b)
or_nothing true b h = refl
or_nothing false b h = sym h

pub answers-kept : (setup : Setup) (lost ended : ℕ → Bool) (order : List Entry) → IsClosed setup lost order ended → KeepsAnswers setup order ended lost
answers-kept setup lost ended order closed = record {
  grown = λ more n lt over. ap (λ p. p.answer) (place-grown setup lost lost order more n (λ k. refl) lt);
  gained = λ m n unended lt over.
      ap (λ p. p.answer) (sym (rests_on_ended setup lost (lost_too lost m) ended order closed
      (λ k e. or_nothing (lost k) (k == m) (not_the_same ended m k unended e (k == m) (eqb-true k m))) n lt over));
}
