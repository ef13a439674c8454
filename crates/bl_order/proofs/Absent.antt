-- What is used is present, and what is absent is empty.
use Rattle.std.proofs.Common.{◌≡◌, ◌≢◌, ℕ, zero, suc, ◌<◌, Bool, true, false, cond, ◌&&◌, ◌||◌, List, [], ◌∷◌, length, get_or, set, refl, sym, ◌∙◌, ap, subst, arith, true≢false, eqb-true}
use Rattle.std.specs.Prelude.{◌==◌, Option, Some, None}
use Rattle.std.specs.List.{AllByRecursion}
use Rattle.std.proofs.lemmas.List.{get_or-set_other}
use Rattle.std.proofs.lemmas.List.Elements.{All-from_recursion}
use Rattle.bl_level.specs.Level.{SecurityLevel}
use Rattle.bl_policy.specs.Policy.{SecurityPolicy, is_present}
use Rattle.bl_policy.specs.Properties.{IsPresent}
use Rattle.bl_policy.specs.RuleEffect.{rule_fault, rule_makes, unless_failed}
use Rattle.bl_policy.specs.declared.access.Access.{Access}
use Rattle.bl_policy.specs.declared.denial.Denial.{Denial}
use Rattle.bl_policy.specs.declared.rule.Rule.{Rule}
use Rattle.bl_policy.specs.declared.rule.Rule.TheVariants.{Give, Rescind, Current, Classify, Create, Delete}
use Rattle.bl_work.specs.Effects.{Effect}
use Rattle.bl_setup.specs.Agreement.{Agree}
use Rattle.bl_setup.specs.Setup.{Setup}
use Rattle.bl_order.specs.Headline.{IsReached}
use Rattle.bl_order.specs.Laws.{AbsentIsEmpty, UsesPresent, wrote}
use Rattle.bl_order.specs.Machine.{State, past_at, is_lost, has_ended, runs}
use Rattle.bl_order.specs.Now.{ended_before, policy_now, content_now}
use Rattle.bl_order.specs.Order.{Entry, Task, Runs, Applies, accesses_of, is_declared, is_rule}
use Rattle.bl_order.specs.Past.{earlier, place, policy_of, content_of, policy_before, answer_of, fault_of_task, is_done, is_rule_done, deletes, may_alter, leaves, has_deleted, changed}
use Rattle.bl_order.proofs.Conflicts.{or_right, rule_conflicts, altered_is_declared}
use Rattle.bl_order.proofs.HeadlineProof.{present-at}
use Rattle.bl_order.proofs.Leaving.{leaves-untouched, leaves-deleted}
use Rattle.bl_order.proofs.LineageProof.{alters-done}
use Rattle.bl_order.proofs.Places.{made-all_ended}
use Rattle.bl_order.proofs.Reached.{sound-reached}
use Rattle.bl_order.proofs.Sound.{IsOrderly}
use Rattle.bl_order.proofs.StateLaws.{changed-skips, policy-made}
use Rattle.bl_order.proofs.Steps.{equal_self}

pub used-present : (setup : Setup) (lost : ℕ → Bool) (order : List Entry) (n : ℕ) → UsesPresent setup lost order n
used-present setup lost order n done = All-from_recursion _ _ (present-at setup lost order n done)

-- ---- who is present behind a place

set-true : (xs : List Bool) (d o : ℕ) → get_or xs o false ≡ true → get_or (set xs d true) o false ≡ true
set-true [] d o h = h
set-true (x ∷ xs) zero zero h = refl
set-true (x ∷ xs) zero (suc o) h = h
set-true (x ∷ xs) (suc d) zero h = h
set-true (x ∷ xs) (suc d) (suc o) h = set-true xs d o h

not_same : (d o : ℕ) → (d == o) ≡ false → o ≢ d
not_same d o h e = true≢false (sym (equal_self d) ∙ ap (λ j. d == j) (sym e) ∙ h)

-- a rule that does not delete a document leaves it present
makes-present : (p : SecurityPolicy) (s : ℕ) (rule : Rule) (o : ℕ) → deletes rule o ≡ false → is_present p o ≡ true → is_present (rule_makes p s rule) o ≡ true
makes-present p s (Give t d m) o h k = k
makes-present p s (Rescind t d m) o h k = k
makes-present p s (Current level) o h k = k
makes-present p s (Classify d level) o h k = k
makes-present p s (Create d) o h k = set-true p.present d o k
makes-present p s (Delete d) o h k = get_or-set_other p.present d o false false (not_same d o h) ∙ k

-- and so does a place that does not delete it
present-behind : (b : Bool) (p : SecurityPolicy) (s : ℕ) (carried : SecurityLevel) (t : Task) (es : List Effect) (o : ℕ)
    → (is_rule_done (answer_of b (fault_of_task p s carried t) t es) && may_alter t o) ≡ false → is_present p o ≡ true
    → is_present (changed (answer_of b (fault_of_task p s carried t) t es) t s p) o ≡ true
present-behind b p s carried (Runs script index) es o h k = k
present-behind b p s carried (Applies rule) es o h k = go b (rule_fault p s rule) refl h
  where
    go : (c : Bool) (f : Option Denial) → rule_fault p s rule ≡ f → (is_rule_done (answer_of c f (Applies rule) es) && deletes rule o) ≡ false
        → is_present (changed (answer_of c f (Applies rule) es) (Applies rule) s p) o ≡ true
    go true f is e = k
    go false (Some denial) is e = ap (λ x. is_present (unless_failed x (rule_makes p s rule) p) o) is ∙ k
    go false None is e = ap (λ x. is_present (unless_failed x (rule_makes p s rule) p) o) is ∙ makes-present p s rule o e k

-- ---- what is written is present

declared-present : (p : SecurityPolicy) (accesses : List Access) (o : ℕ) → AllByRecursion (λ (a : Access). IsPresent p a.doc) accesses → is_declared accesses o ≡ true
    → is_present p o ≡ true
declared-present p [] o each h = absurd (true≢false (sym h))
declared-present p (a ∷ rest) o each h = go (a.doc == o) refl h (declared-present p rest o each.1)
  where
    go : (b : Bool) → (a.doc == o) ≡ b → (b || is_declared rest o) ≡ true → (is_declared rest o ≡ true → is_present p o ≡ true) → is_present p o ≡ true
    go true e now later = subst (λ d. is_present p d ≡ true) (eqb-true a.doc o e) each.0
    go false e now later = later now

both : (a b : Bool) → (a && b) ≡ true → (a ≡ true) × (b ≡ true)
both true b h = (refl, h)
both false b h = absurd (true≢false (sym h))

-- ---- what is absent is empty

module _ (setup : Setup) (lost : ℕ → Bool) (order : List Entry) (doc : ℕ) where
  written-present : (n : ℕ) → wrote setup lost order doc n ≡ true → is_present (policy_before setup lost order n) doc ≡ true
  written-present n h =
      let parts : (is_done (place setup lost order n).answer ≡ true) × (may_alter (place setup lost order n).task doc ≡ true) =
      both (is_done (place setup lost order n).answer) (may_alter (place setup lost order n).task doc) h in
      declared-present (policy_before setup lost order n) (accesses_of (place setup lost order n).task) doc (present-at setup lost order n parts.0)
      (altered_is_declared (accesses_of (place setup lost order n).task) doc (alters-done (lost n) _ (place setup lost order n).task _ doc parts.0 parts.1))

  -- one place, of which the policy is this
  absent-step : (n : ℕ) (p : SecurityPolicy) (c : List ℕ) → p ≡ policy_before setup lost order n → (is_present p doc ≡ false → c ≡ [])
      → is_present (changed (place setup lost order n).answer (place setup lost order n).task (place setup lost order n).subject p) doc ≡ false
      → leaves (place setup lost order n) doc c ≡ []
  absent-step n p c same deeper h = go (has_deleted (place setup lost order n) doc) (wrote setup lost order doc n) (is_present p doc) refl refl refl
    where
      stays : has_deleted (place setup lost order n) doc ≡ false → is_present p doc ≡ true
          → is_present (changed (place setup lost order n).answer (place setup lost order n).task (place setup lost order n).subject p) doc ≡ true
      stays i k =
          ap (λ q. is_present (changed (place setup lost order n).answer (place setup lost order n).task (place setup lost order n).subject q) doc) same
          ∙ present-behind (lost n) (policy_before setup lost order n) (place setup lost order n).subject (place setup lost order n).carried (place setup lost order n).task _ doc i
          (ap (λ q. is_present q doc) (sym same) ∙ k)

      go : (d w q : Bool) → has_deleted (place setup lost order n) doc ≡ d → wrote setup lost order doc n ≡ w → is_present p doc ≡ q
          → leaves (place setup lost order n) doc c ≡ []
      go true w q i j k = leaves-deleted (place setup lost order n) doc c i
      go false w true i j k = absurd (true≢false (sym (stays i k) ∙ h))
      go false true false i j k = absurd (true≢false (sym (ap (λ q. is_present q doc) same ∙ written-present n j) ∙ k))
      go false false false i j k =
          leaves-untouched (place setup lost order n) doc c (ap (λ b. b || has_deleted (place setup lost order n) doc) j ∙ i) ∙ deeper k

  module _ (agree : Agree setup) where
    first-empty : is_present setup.policy doc ≡ false → content_of setup [] doc ≡ []
    first-empty h = agree.absent doc (λ k. true≢false (sym k ∙ h))

    empty-at : (n : ℕ) → is_present (policy_before setup lost order n) doc ≡ false → content_of setup (earlier setup lost order n) doc ≡ []
    empty-at zero h = first-empty h
    empty-at (suc n) h =
        absent-step n (policy_before setup lost order n) (content_of setup (earlier setup lost order n) doc) refl (empty-at n) h

    -- what the ended places make, where each of them has the rules before it among them
    empty-ended : (ended : ℕ → Bool) (n : ℕ)
        → ((m : ℕ) → m < n → ended m ≡ true → policy_of setup (ended_before setup lost order ended m) ≡ policy_before setup lost order m)
        → is_present (policy_of setup (ended_before setup lost order ended n)) doc ≡ false
        → content_of setup (ended_before setup lost order ended n) doc ≡ []
    empty-ended ended zero same h = first-empty h
    empty-ended ended (suc n) same h = go (ended n) refl h (empty-ended ended n (λ m lt. same m (omega arith)))
      where
        go : (b : Bool) → ended n ≡ b
            → is_present (policy_of setup (cond b (place setup lost order n ∷ ended_before setup lost order ended n) (ended_before setup lost order ended n))) doc ≡ false
            → (is_present (policy_of setup (ended_before setup lost order ended n)) doc ≡ false → content_of setup (ended_before setup lost order ended n) doc ≡ [])
            → content_of setup (cond b (place setup lost order n ∷ ended_before setup lost order ended n) (ended_before setup lost order ended n)) doc ≡ []
        go false e k deeper = deeper k
        go true e k deeper =
            absent-step n (policy_of setup (ended_before setup lost order ended n)) (content_of setup (ended_before setup lost order ended n) doc)
            (same n (omega arith) e) deeper k

untrue : (b : Bool) → (b ≡ true → ⊥) → b ≡ false
untrue true never = absurd (never refl)
untrue false never = refl

pub absent-empty : (setup : Setup) (lost : ℕ → Bool) (order : List Entry) (doc n : ℕ) → Agree setup → AbsentIsEmpty setup lost order doc n
absent-empty setup lost order doc n agree absent = empty-at setup lost order doc agree n (untrue (is_present (policy_before setup lost order n) doc) absent)

-- the ended places before an ended one make the policy at its place
policy-ended : (x : State) → IsOrderly x → (m : ℕ) → m < length x.order → has_ended x m ≡ true
    → policy_of x.setup (ended_before x.setup (is_lost x) x.order (has_ended x) m) ≡ policy_before x.setup (is_lost x) x.order m
policy-ended x orderly m lt over =
    policy-made x.setup (ended_before x.setup (is_lost x) x.order (has_ended x) m)
    ∙ made-all_ended (λ p y. changed p.answer p.task p.subject y) x.setup.policy is_rule (λ p y h. changed-skips p.answer p.task p.subject y h)
    x.setup (is_lost x) x.order (has_ended x) m
    (λ k below rule. orderly k m below lt (or_right (runs x m) (has_ended x m) over) (rule_conflicts (past_at x k).task (past_at x m).task rule))
    ∙ sym (policy-made x.setup (earlier x.setup (is_lost x) x.order m))

pub absent-empty_now : (x : State) (doc : ℕ) → IsReached x → Agree x.setup → (IsPresent (policy_now x) doc → ⊥) → content_now x doc ≡ []
absent-empty_now x doc reached agree absent =
    empty-ended x.setup (is_lost x) x.order doc agree (has_ended x) (length x.order)
    (λ m lt over. policy-ended x (sound-reached x reached).orderly m lt over)
    (untrue (is_present (policy_now x) doc) absent)
