-- Why a condition of a rule is answered so, in words.
use Rattle.std.specs.Prelude.{ℕ, Bool, true, false, List, [], ◌∷◌, Option, Some, None, codes}
use Rattle.bl_level.specs.Scheme.{SchemeNames, HoldsLevel}
use Rattle.bl_policy.specs.declared.denial.Clause.{Clause}
use Rattle.bl_policy.specs.declared.denial.Clause.TheVariants as failing
use Rattle.bl_policy.specs.declared.rule.Rule.{Rule}
use Rattle.bl_policy.specs.declared.rule.Rule.TheVariants.{Give, Rescind, Current, Classify, Create, Delete}
use Rattle.bl_policy.specs.RuleEffect.{document_of}
use Rattle.bl_work.specs.Names.{KnownNames}
use Rattle.bl_explain.specs.declared.rules.RuleGrounds.{RuleGrounds}
use Rattle.bl_explain_text.specs.Reasons.{joined, subject_name, document_name, there_words, trusted_words, greatest_words}

-- the level that a rule asks for as the current one has a name
abbrev pub HoldsAsked : SchemeNames → Rule → Type 0
HoldsAsked scheme (Current level) = HoldsLevel scheme level
HoldsAsked scheme (Give t o m) = Unit {0}
HoldsAsked scheme (Rescind t o m) = Unit {0}
HoldsAsked scheme (Classify o level) = Unit {0}
HoldsAsked scheme (Create o) = Unit {0}
HoldsAsked scheme (Delete o) = Unit {0}

-- the levels that a rule is judged by have names
pub record HoldsRuleGrounds (scheme : SchemeNames) (g : RuleGrounds) (rule : Rule) : Type 0 where
  pub greatest : HoldsLevel scheme g.greatest
  pub asked : HoldsAsked scheme rule

-- own choice: these words, and those below
abbrev pub admin_words : Bool → List ℕ
admin_words true = codes " is an administrator"
admin_words false = codes " is no administrator"

-- what the speaker's greatest level dominates, of a rule that asks for a current level
abbrev pub greatest_reason : KnownNames → ℕ → Rule → RuleGrounds → List ℕ
greatest_reason names s (Current level) g = greatest_words names s g.greatest level
greatest_reason names s (Give t o m) g = []
greatest_reason names s (Rescind t o m) g = []
greatest_reason names s (Classify o level) g = []
greatest_reason names s (Create o) g = []
greatest_reason names s (Delete o) g = []

-- whether the document of a rule is present, where it has one
abbrev pub document_reason : KnownNames → Option ℕ → Option Bool → List ℕ
document_reason names (Some o) (Some there) = joined (document_name names o ∷ there_words there ∷ [])
document_reason names (Some o) None = []
document_reason names None there = []

-- why this condition of a rule is answered as it is; no rule has a property of accesses but presence
abbrev pub rule_reason : KnownNames → ℕ → Rule → RuleGrounds → Clause → List ℕ
rule_reason names s rule g failing.Admin = joined (subject_name names s ∷ admin_words g.admin ∷ [])
rule_reason names s rule g failing.Trusted = joined (subject_name names s ∷ trusted_words g.trusted ∷ [])
rule_reason names s rule g failing.Greatest = greatest_reason names s rule g
rule_reason names s rule g failing.Present = document_reason names (document_of rule) g.present
rule_reason names s rule g failing.Absent = document_reason names (document_of rule) g.present
rule_reason names s rule g failing.Simple = []
rule_reason names s rule g failing.Star = []
rule_reason names s rule g failing.Discretionary = []
rule_reason names s rule g failing.Carry = []
