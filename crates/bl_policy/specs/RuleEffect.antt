-- RuleEffect (Bell and La Padula 1976, rules; own choice: these rules and their conditions): the failing condition, or the new policy.
use Rattle.std.specs.Prelude.{◌≡◌, ◌<◌, ℕ, true, false, length, Option, Some, None, option_map, IsTrue, if◌then◌else◌}
use Rattle.bl_level.specs.Level.{dominates, Dominates}
use Rattle.bl_policy.specs.declared.denial.Clause.{Clause}
use Rattle.bl_policy.specs.declared.denial.Clause.TheVariants as failing
use Rattle.bl_policy.specs.declared.denial.Denial.{Denial}
use Rattle.bl_policy.specs.declared.rule.Rule.{Rule}
use Rattle.bl_policy.specs.declared.rule.Rule.TheVariants.{Give, Rescind, Current, Classify, Create, Delete}
use Rattle.bl_policy.specs.Matrix.{triple}
use Rattle.bl_policy.specs.Policy.{SecurityPolicy, greatest_of, is_admin, is_trusted, is_present, with_triple, without_triple, with_current, with_level, with_presence, without_cells}
use Rattle.bl_policy.specs.Properties.{IsPresent}

-- the subjects and documents that a rule names are below these numbers
abbrev pub HasIdsBelow : ℕ → ℕ → Rule → Type 0
HasIdsBelow subjects documents (Give t o m) = (t < subjects) × (o < documents)
HasIdsBelow subjects documents (Rescind t o m) = (t < subjects) × (o < documents)
HasIdsBelow subjects documents (Current level) = Unit {0}
HasIdsBelow subjects documents (Classify o level) = o < documents
HasIdsBelow subjects documents (Create o) = o < documents
HasIdsBelow subjects documents (Delete o) = o < documents

-- the subjects and documents that a rule names are in the policy
abbrev pub IsRuleOf : SecurityPolicy → Rule → Type 0
IsRuleOf p rule = HasIdsBelow (length p.subjects) (length p.documents) rule

-- the document of a rule: a change of the current level has none
abbrev pub document_of : Rule → Option ℕ
document_of (Give t o m) = Some o
document_of (Rescind t o m) = Some o
document_of (Current level) = None
document_of (Classify o level) = Some o
document_of (Create o) = Some o
document_of (Delete o) = Some o

-- Own choice: give and rescind need an administrator, classify an administrator who is also trusted, create an administrator and a document
-- that is absent, delete an administrator and a document that is present, and the speaker's greatest level has to dominate the current level
-- that it asks for.
abbrev pub Permits : SecurityPolicy → ℕ → Rule → Type 0
Permits p s (Give t o m) = IsTrue (is_admin p s)
Permits p s (Rescind t o m) = IsTrue (is_admin p s)
Permits p s (Current level) = Dominates (greatest_of p s) level
Permits p s (Classify o level) = IsTrue (is_admin p s) × IsTrue (is_trusted p s)
Permits p s (Create o) = IsTrue (is_admin p s) × ¬ IsPresent p o
Permits p s (Delete o) = IsTrue (is_admin p s) × IsPresent p o

-- the first condition that the rule of subject s fails
abbrev pub failed_condition : SecurityPolicy → ℕ → Rule → Option Clause
failed_condition p s (Give t o m) = if is_admin p s then None else Some failing.Admin
failed_condition p s (Rescind t o m) = if is_admin p s then None else Some failing.Admin
failed_condition p s (Current level) = if dominates (greatest_of p s) level then None else Some failing.Greatest
failed_condition p s (Classify o level) = if is_admin p s then (if is_trusted p s then None else Some failing.Trusted) else Some failing.Admin
failed_condition p s (Create o) = if is_admin p s then (if is_present p o then Some failing.Present else None) else Some failing.Admin
failed_condition p s (Delete o) = if is_admin p s then (if is_present p o then None else Some failing.Absent) else Some failing.Admin

-- the refusal of a rule: it names the speaker, and the document of the rule
abbrev pub refusal : ℕ → Rule → Clause → Denial
refusal s rule clause = record { clause = clause; subject = s; object = document_of rule }

-- the failing condition of a rule of subject s, as its refusal
abbrev pub rule_fault : SecurityPolicy → ℕ → Rule → Option Denial
rule_fault p s rule = option_map (refusal s rule) (failed_condition p s rule)

-- the new policy: a triple put in or taken out, the speaker's current level, the document's level, the document present, or absent and each
-- cell of it empty
abbrev pub rule_makes : SecurityPolicy → ℕ → Rule → SecurityPolicy
rule_makes p s (Give t o m) = with_triple p (triple t o m)
rule_makes p s (Rescind t o m) = without_triple p (triple t o m)
rule_makes p s (Current level) = with_current p s level
rule_makes p s (Classify o level) = with_level p o level
rule_makes p s (Create o) = with_presence p o true
rule_makes p s (Delete o) = without_cells (with_presence p o false) o

-- the new policy where nothing failed, else the old one
abbrev pub unless_failed : Option Denial → SecurityPolicy → SecurityPolicy → SecurityPolicy
unless_failed None made old = made
unless_failed (Some denial) made old = old

-- the policy after the rule: a rule that fails its condition changes nothing
abbrev pub after_rule : SecurityPolicy → ℕ → Rule → SecurityPolicy
after_rule p s rule = unless_failed (rule_fault p s rule) (rule_makes p s rule) p

-- this is the first condition that the rule of subject s fails
abbrev pub FailsCondition : Clause → SecurityPolicy → ℕ → Rule → Type 0
FailsCondition failing.Admin p s (Give t o m) = ¬ IsTrue (is_admin p s)
FailsCondition failing.Admin p s (Rescind t o m) = ¬ IsTrue (is_admin p s)
FailsCondition failing.Admin p s (Classify o level) = ¬ IsTrue (is_admin p s)
FailsCondition failing.Admin p s (Create o) = ¬ IsTrue (is_admin p s)
FailsCondition failing.Admin p s (Delete o) = ¬ IsTrue (is_admin p s)
FailsCondition failing.Trusted p s (Classify o level) = IsTrue (is_admin p s) × ¬ IsTrue (is_trusted p s)
FailsCondition failing.Greatest p s (Current level) = ¬ Dominates (greatest_of p s) level
FailsCondition failing.Present p s (Create o) = IsTrue (is_admin p s) × IsPresent p o
FailsCondition failing.Absent p s (Delete o) = IsTrue (is_admin p s) × ¬ IsPresent p o
FailsCondition clause p s rule = ⊥

-- the refusal names the speaker, the document of the rule, and the first condition that the rule fails
pub record IsRuleFault (p : SecurityPolicy) (s : ℕ) (rule : Rule) (denial : Denial) : Type 0 where
  pub fails : FailsCondition denial.clause p s rule
  pub subject : denial.subject ≡ s
  pub object : denial.object ≡ document_of rule
