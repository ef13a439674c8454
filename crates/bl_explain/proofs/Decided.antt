-- That what fails first is what the decision names.
use Rattle.std.proofs.Common.{◌≡◌, ℕ, suc, zero, Bool, true, false, not, refl, sym, ◌∙◌, ap, subst, [], ◌∷◌, Option, Some, None}
use Rattle.std.specs.Prelude.{◌↔◌, slice_get, unwrap_or, option_map, if◌then◌else◌}
use Rattle.bl_level.specs.Level.{SecurityLevel}
use Rattle.bl_policy.specs.declared.access.Access.{Access}
use Rattle.bl_policy.specs.declared.denial.Clause.{Clause}
use Rattle.bl_policy.specs.declared.denial.Clause.TheVariants as failing
use Rattle.bl_policy.specs.declared.denial.Denial.{Denial}
use Rattle.bl_policy.specs.declared.rule.Rule.{Rule}
use Rattle.bl_policy.specs.declared.rule.Rule.TheVariants.{Give, Rescind, Current, Classify, Create, Delete}
use Rattle.bl_policy.specs.FirstFault.{denied, fault_of, fault_or, FailsFirst, IsFirstFault}
use Rattle.bl_policy.specs.Policy.{SecurityPolicy, is_admin, is_present}
use Rattle.bl_policy.specs.Properties.{IsGranted, is_simple, is_star, is_discretionary, is_carry}
use Rattle.bl_policy.specs.RuleEffect.{FailsCondition, IsRuleFault, Permits, failed_condition, refusal, rule_fault}
use Rattle.bl_policy.proofs.Properties.{Means, granted-of_none, none-of_granted, first-of_some}
use Rattle.bl_explain.specs.RuleTests.{in_turn, rule_grounds_of, rule_tests_of, rule_tests_on}
use Rattle.bl_explain.specs.Tests.{fails_first, in_order, refused, tests_of}

-- by the answers
answered : (a b c d e : Bool) (s : ℕ) (access : Access)
    → fault_or (if a then None else denied failing.Absent s access.doc)
    (fault_or (if b then (if c then (if d then None else denied failing.Discretionary s access.doc) else denied failing.Star s access.doc) else denied failing.Simple s access.doc)
    (if e then None else denied failing.Carry s access.doc))
    ≡ refused s access (fails_first (in_order (record { present = a; simple = b; star = c; discretionary = d; carry = e })))
answered true true true true true s access = refl
answered true true true true false s access = refl
answered true true true false e s access = refl
answered true true false d e s access = refl
answered true false c d e s access = refl
answered false b c d e s access = refl

pub decided : (p : SecurityPolicy) (s : ℕ) (carried : SecurityLevel) (access : Access)
    → fault_of p s carried access ≡ refused s access (fails_first (in_order (tests_of p s carried access)))
decided p s carried access =
    answered (is_present p access.doc) (is_simple p s access.doc access.mode) (is_star p s access.doc access.mode)
    (is_discretionary p s access.doc access.mode) (is_carry p s carried access.doc access.mode) s access

none-of_mapped : {A B : Type 0} (f : A → B) (x : Option A) → option_map f x ≡ None → x ≡ None
none-of_mapped f None e = refl
none-of_mapped f (Some a) e = absurd (cc)

some_is : {X : Type 0} (x y : X) → Some x ≡ Some y → x ≡ y
some_is x y e = ap (λ o. unwrap_or o x) e

single : (place : ℕ) (a b : Access) → slice_get (a ∷ []) place ≡ Some b → b ≡ a
single zero a b e = sym (some_is a b e)
single (suc k) a b e = absurd (cc)

module _ (means : Means) where
  pub granted : (p : SecurityPolicy) (s : ℕ) (carried : SecurityLevel) (access : Access)
      → (fails_first (in_order (tests_of p s carried access)) ≡ None) ↔ IsGranted p s carried access.doc access.mode
  granted p s carried access = (
    (λ e. granted-of_none means p s carried access (decided p s carried access ∙ ap (λ x. refused s access x) e)),
    (λ h. none-of_mapped _ (fails_first (in_order (tests_of p s carried access))) (sym (decided p s carried access) ∙ none-of_granted means p s carried access h)),
  )

  of_single : (p : SecurityPolicy) (s : ℕ) (carried : SecurityLevel) (access : Access) (denial : Denial) → IsFirstFault p s carried (access ∷ []) denial
      → FailsFirst denial.clause p s carried access.doc access.mode
  of_single p s carried access denial f =
      subst (λ (a : Access). FailsFirst denial.clause p s carried a.doc a.mode) (single f.place access f.access f.at) f.fails

  pub fails : (p : SecurityPolicy) (s : ℕ) (carried : SecurityLevel) (access : Access) (clause : Clause)
      → fails_first (in_order (tests_of p s carried access)) ≡ Some clause → FailsFirst clause p s carried access.doc access.mode
  fails p s carried access clause e =
      let denial : Denial = record { clause = clause; subject = s; object = Some access.doc } in
      of_single p s carried access denial
      (first-of_some means p s carried (access ∷ []) denial (ap (λ f. fault_or f None) (decided p s carried access ∙ ap (λ x. refused s access x) e)))

-- ---- rules

pub by_grounds : (p : SecurityPolicy) (s : ℕ) (rule : Rule) → rule_tests_on (rule_grounds_of p s rule) rule ≡ rule_tests_of p s rule
by_grounds p s (Give t o m) = refl
by_grounds p s (Rescind t o m) = refl
by_grounds p s (Current level) = refl
by_grounds p s (Classify o level) = refl
by_grounds p s (Create o) = refl
by_grounds p s (Delete o) = refl

turned : (b : Bool) (clause : Clause) → (if b then Some clause else None) ≡ (if not b then None else Some clause)
turned true clause = refl
turned false clause = refl

pub failed : (p : SecurityPolicy) (s : ℕ) (rule : Rule) → failed_condition p s rule ≡ fails_first (in_turn (rule_tests_of p s rule))
failed p s (Give t o m) = refl
failed p s (Rescind t o m) = refl
failed p s (Current level) = refl
failed p s (Classify o level) = refl
failed p s (Create o) = ap (λ x. if is_admin p s then x else Some failing.Admin) (turned (is_present p o) failing.Present)
failed p s (Delete o) = refl

pub rule_decided : (p : SecurityPolicy) (s : ℕ) (rule : Rule) → rule_fault p s rule ≡ option_map (refusal s rule) (fails_first (in_turn (rule_tests_of p s rule)))
rule_decided p s rule = ap (λ x. option_map (refusal s rule) x) (failed p s rule)

abbrev pub NonePermits : Type 0
NonePermits = (p : SecurityPolicy) (s : ℕ) (rule : Rule) → (rule_fault p s rule ≡ None) ↔ Permits p s rule

abbrev pub SomeFails : Type 0
SomeFails = (p : SecurityPolicy) (s : ℕ) (rule : Rule) (denial : Denial) → rule_fault p s rule ≡ Some denial → IsRuleFault p s rule denial

pub permitted : NonePermits → (p : SecurityPolicy) (s : ℕ) (rule : Rule) → (fails_first (in_turn (rule_tests_of p s rule)) ≡ None) ↔ Permits p s rule
permitted law p s rule = (
  (λ e. (law p s rule).0 (rule_decided p s rule ∙ ap (λ x. option_map (refusal s rule) x) e)),
  (λ h. none-of_mapped (refusal s rule) (fails_first (in_turn (rule_tests_of p s rule))) (sym (rule_decided p s rule) ∙ (law p s rule).1 h)),
)

pub rule_fails : SomeFails → (p : SecurityPolicy) (s : ℕ) (rule : Rule) (clause : Clause) → fails_first (in_turn (rule_tests_of p s rule)) ≡ Some clause → FailsCondition clause p s rule
rule_fails law p s rule clause e = (law p s rule (refusal s rule clause) (rule_decided p s rule ∙ ap (λ x. option_map (refusal s rule) x) e)).fails
