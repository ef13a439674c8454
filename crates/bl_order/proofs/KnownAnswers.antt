-- An answer names no ids but those of its setup.
use Rattle.std.proofs.Common.{ℕ, zero, suc, ◌<◌, Bool, true, false, cond, List, [], ◌∷◌, length, arith}
use Rattle.std.specs.Prelude.{All, IfSome, Option, Some, None, option_map}
use Rattle.bl_level.specs.Level.{SecurityLevel}
use Rattle.bl_policy.specs.Policy.{SecurityPolicy, is_present}
use Rattle.bl_policy.specs.Properties.{is_simple, is_star, is_discretionary, is_carry}
use Rattle.bl_policy.specs.FirstFault.{denied, absence, property_fault, carry_fault, fault_of, fault_or, first_fault}
use Rattle.bl_policy.specs.declared.access.Access.{Access}
use Rattle.bl_policy.specs.RuleEffect.{IsRuleOf, document_of, failed_condition, refusal, rule_fault}
use Rattle.bl_policy.specs.declared.denial.Clause.{Clause}
use Rattle.bl_policy.specs.declared.denial.Clause.TheVariants as failing
use Rattle.bl_policy.specs.declared.rule.Rule.{Rule}
use Rattle.bl_policy.specs.declared.rule.Rule.TheVariants.{Give, Rescind, Current, Classify, Create, Delete}
use Rattle.bl_policy.specs.declared.denial.Denial.{Denial}
use Rattle.bl_work.specs.Effects.{Effect}
use Rattle.bl_setup.specs.Setup.{Setup}
use Rattle.bl_order.specs.Order.{Task, Runs, Applies, accesses_of}
use Rattle.bl_order.specs.Past.{answer_of, fault_of_task}
use Rattle.bl_order.specs.Known.{KnowsTask, KnowsDenial, KnowsAnswer}

module _ (setup : Setup) (p : SecurityPolicy) (s : ℕ) (known : s < length setup.policy.subjects) where
  one : (doc : ℕ) → doc < length setup.policy.documents → (b c d : Bool)
      → IfSome (cond b (cond c (cond d None (denied failing.Discretionary s doc)) (denied failing.Star s doc)) (denied failing.Simple s doc)) (KnowsDenial setup)
  one doc there true true true = tt
  one doc there true true false = record { subject = known; object = there }
  one doc there true false d = record { subject = known; object = there }
  one doc there false c d = record { subject = known; object = there }

  absent : (doc : ℕ) → doc < length setup.policy.documents → (b : Bool) → IfSome (cond b None (denied failing.Absent s doc)) (KnowsDenial setup)
  absent doc there true = tt
  absent doc there false = record { subject = known; object = there }

  carries : (doc : ℕ) → doc < length setup.policy.documents → (b : Bool) → IfSome (cond b None (denied failing.Carry s doc)) (KnowsDenial setup)
  carries doc there true = tt
  carries doc there false = record { subject = known; object = there }

  either : (first later : Option Denial) → IfSome first (KnowsDenial setup) → IfSome later (KnowsDenial setup) → IfSome (fault_or first later) (KnowsDenial setup)
  either None later here there = there
  either (Some denial) later here there = here

  -- what the policy has against accesses whose documents are there
  fault_known : (carried : SecurityLevel) (accesses : List Access) → All (λ (a : Access). a.doc < length setup.policy.documents) accesses
      → IfSome (first_fault p s carried accesses) (KnowsDenial setup)
  fault_known carried [] below = tt
  fault_known carried (a ∷ rest) below =
      either (fault_of p s carried a) (first_fault p s carried rest)
      (either (absence p s a) (fault_or (property_fault p s a) (carry_fault p s carried a))
      (absent a.doc (below zero a (omega arith)) (is_present p a.doc))
      (either (property_fault p s a) (carry_fault p s carried a)
      (one a.doc (below zero a (omega arith)) (is_simple p s a.doc a.mode) (is_star p s a.doc a.mode) (is_discretionary p s a.doc a.mode))
      (carries a.doc (below zero a (omega arith)) (is_carry p s carried a.doc a.mode))))
      (fault_known carried rest (λ k d lt. below (suc k) d (omega (arith, lt))))

  document_known : (rule : Rule) → IsRuleOf setup.policy rule → IfSome (document_of rule) (λ doc. doc < length setup.policy.documents)
  document_known (Give t o m) there = there.1
  document_known (Rescind t o m) there = there.1
  document_known (Current level) there = tt
  document_known (Classify o level) there = there
  document_known (Create o) there = there
  document_known (Delete o) there = there

  -- what the policy has against a rule whose document is there
  refusal_known : (rule : Rule) → IsRuleOf setup.policy rule → IfSome (rule_fault p s rule) (KnowsDenial setup)
  refusal_known rule there = go (failed_condition p s rule)
    where
      go : (x : Option Clause) → IfSome (option_map (refusal s rule) x) (KnowsDenial setup)
      go None = tt
      go (Some clause) = record { subject = known; object = document_known rule there }

  -- what the policy has against a task whose ids are there
  pub denial_known : (carried : SecurityLevel) (task : Task) → KnowsTask setup task → IfSome (fault_of_task p s carried task) (KnowsDenial setup)
  denial_known carried (Runs script index) there = fault_known carried (accesses_of (Runs script index)) there
  denial_known carried (Applies rule) there = refusal_known rule there

-- an answer names no ids but those of what is held against its task
pub answer_known : (setup : Setup) (lost : Bool) (fault : Option Denial) (task : Task) (effects : List Effect)
    → IfSome fault (KnowsDenial setup) → KnowsAnswer setup (answer_of lost fault task effects)
answer_known setup true fault task effects known = tt
answer_known setup false (Some denial) task effects known = known
answer_known setup false None (Runs script index) effects known = tt
answer_known setup false None (Applies rule) effects known = tt
