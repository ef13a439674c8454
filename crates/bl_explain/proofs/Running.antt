-- What is said of a run: that its rules make its policy, and that a denial is of its moment.
use Rattle.std.proofs.Common.{◌≡◌, ℕ, suc, Bool, true, false, refl, sym, ◌∙◌, ap, subst, List, [], ◌∷◌, ◌++◌, Option, Some, None}
use Rattle.std.specs.Prelude.{if◌then◌else◌}
use Rattle.bl_policy.specs.Policy.{SecurityPolicy}
use Rattle.bl_policy.specs.RuleEffect.{after_rule}
use Rattle.bl_policy.specs.declared.denial.Denial.{Denial}
use Rattle.bl_setup.specs.Setup.{Setup}
use Rattle.bl_work.specs.Effects.{Effect}
use Rattle.bl_work.specs.declared.answer.Answer.{Answer}
use Rattle.bl_work.specs.declared.answer.Answer.TheVariants.{Done, RuleDone, Denied, Lost}
use Rattle.bl_order.specs.Headline.{Holds, IsReached, MovesOn}
use Rattle.bl_order.specs.Machine.{State, Event, Opens, Admits, Starts, Ends, Loses, MayStart, Needs, IsTrail, change, is_lost, past_at, start, state_after}
use Rattle.bl_order.specs.Now.{policy_at, policy_now, content_at}
use Rattle.bl_order.specs.Order.{Task, Runs, Applies}
use Rattle.bl_order.specs.Past.{answer_of, changed, deeds, fault_of_task, was_lost}
use Rattle.bl_explain.specs.declared.since.Applied.{Applied}
use Rattle.bl_explain.specs.Run.{IsOfItsMoment, applied_by, rule_of, rules_of}
use Rattle.bl_explain.specs.Since.{policy_after}

after-append : (p : SecurityPolicy) (front rest : List Applied) → policy_after p (front ++ rest) ≡ policy_after (policy_after p front) rest
after-append p [] rest = refl
after-append p (rule ∷ front) rest = after-append (after_rule p rule.speaker rule.rule) front rest

-- what a start applies is what it changes
by_task : (lost : Bool) (event subject : ℕ) (task : Task) (p : SecurityPolicy) (answer : Answer) → was_lost answer ≡ lost
    → changed answer task subject p ≡ policy_after p (if lost then [] else rule_of event subject task)
by_task true event subject (Runs script index) p answer e = refl
by_task false event subject (Runs script index) p answer e = refl
by_task true event subject (Applies rule) p answer e = ap (λ b. if b then p else after_rule p subject rule) e
by_task false event subject (Applies rule) p answer e = ap (λ b. if b then p else after_rule p subject rule) e

abbrev pub Moves : Type 0
Moves = (x : State) → IsReached x → MovesOn x

abbrev pub LeadsOn : Type 0
LeadsOn = (x : State) (event : Event) → IsReached x → Needs x event → IsReached (change x event)

module _ (moves : Moves) (leads : LeadsOn) where
  from : (count : ℕ) (x : State) (events : List Event) → IsReached x → IsTrail x events
      → policy_now (state_after x events) ≡ policy_after (policy_now x) (rules_of count x events)
  from count x [] reached trail = refl
  from count x (Opens subject ∷ events) reached trail =
      from (suc count) (change x (Opens subject)) events (leads x (Opens subject) reached trail.0) trail.1
      ∙ ap (λ p. policy_after p (rules_of (suc count) (change x (Opens subject)) events)) ((moves x reached).opening_policy subject trail.0)
  from count x (Admits session ordinal work ∷ events) reached trail =
      from (suc count) (change x (Admits session ordinal work)) events (leads x (Admits session ordinal work) reached trail.0) trail.1
      ∙ ap (λ p. policy_after p (rules_of (suc count) (change x (Admits session ordinal work)) events)) ((moves x reached).line_policy session ordinal work trail.0)
  from count x (Starts n ∷ events) reached trail =
      from (suc count) (change x (Starts n)) events (leads x (Starts n) reached trail.0) trail.1
      ∙ ap (λ p. policy_after p (rules_of (suc count) (change x (Starts n)) events))
      ((moves x reached).start_policy n trail.0 ∙ by_task (was_lost (past_at x n).answer) (suc count) (past_at x n).subject (past_at x n).task (policy_now x) (past_at x n).answer refl)
      ∙ sym (after-append (policy_now x) (applied_by (suc count) (past_at x n)) (rules_of (suc count) (change x (Starts n)) events))
  from count x (Ends n ∷ events) reached trail =
      from (suc count) (change x (Ends n)) events (leads x (Ends n) reached trail.0) trail.1
      ∙ ap (λ p. policy_after p (rules_of (suc count) (change x (Ends n)) events)) ((moves x reached).end_policy n trail.0)
  from count x (Loses n ∷ events) reached trail =
      from (suc count) (change x (Loses n)) events (leads x (Loses n) reached trail.0) trail.1
      ∙ ap (λ p. policy_after p (rules_of (suc count) (change x (Loses n)) events)) ((moves x reached).loss_policy n trail.0)

  pub rules_make : ((setup : Setup) (limit : ℕ) → IsReached (start setup limit)) → (setup : Setup) (limit : ℕ) (events : List Event) → IsTrail (start setup limit) events
      → policy_now (state_after (start setup limit) events) ≡ policy_after setup.policy (rules_of 0 (start setup limit) events)
  rules_make first setup limit events trail = from 0 (start setup limit) events (first setup limit) trail

-- ---- a denial

some_denied : (lost : Bool) (fault : Option Denial) (task : Task) (effects : List Effect) (denial : Denial) → answer_of lost fault task effects ≡ Denied denial → fault ≡ Some denial
some_denied true fault task effects denial e = absurd (cc)
some_denied false (Some found) task effects denial e = ap (λ a. named a) e
  where
    named : Answer → Option Denial
    named (Done shown) = None
    named RuleDone = None
    named (Denied d) = Some d
    named Lost = None
some_denied false None (Runs script index) effects denial e = absurd (cc)
some_denied false None (Applies rule) effects denial e = absurd (cc)

module _ (holds : (x : State) → IsReached x → Holds x) where
  fault_is : (x : State) (n : ℕ) (denial : Denial) → IsReached x → MayStart x n → (past_at x n).answer ≡ Denied denial
      → fault_of_task (policy_now x) (past_at x n).subject (past_at x n).carried (past_at x n).task ≡ Some denial
  fault_is x n denial reached may e =
      ap (λ p. fault_of_task p (past_at x n).subject (past_at x n).carried (past_at x n).task) ((holds x reached).at_ready n may)
      ∙ some_denied (is_lost x n) (fault_of_task (policy_at x n) (past_at x n).subject (past_at x n).carried (past_at x n).task)
      (past_at x n).task (deeds (past_at x n).task (λ doc. content_at x doc n)) denial e

  pub of_its_moment : (x : State) (n : ℕ) → IsReached x → MayStart x n → IsOfItsMoment x n
  of_its_moment x n reached may = record {
    behaviour = λ script index denial task e.
        subst (λ t. fault_of_task (policy_now x) (past_at x n).subject (past_at x n).carried t ≡ Some denial) task (fault_is x n denial reached may e);
    rule = λ rule denial task e.
        subst (λ t. fault_of_task (policy_now x) (past_at x n).subject (past_at x n).carried t ≡ Some denial) task (fault_is x n denial reached may e);
  }
