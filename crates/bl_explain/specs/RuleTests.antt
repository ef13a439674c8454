-- What each condition of a rule says, and which one it fails first.
use Rattle.std.specs.Prelude.{ℕ, Bool, false, not, List, [], ◌∷◌, Option, Some, None, option_map, unwrap_or}
use Rattle.bl_level.specs.Level.{dominates}
use Rattle.bl_policy.specs.declared.denial.Clause.TheVariants as failing
use Rattle.bl_policy.specs.declared.rule.Rule.{Rule}
use Rattle.bl_policy.specs.declared.rule.Rule.TheVariants.{Give, Rescind, Current, Classify, Create, Delete}
use Rattle.bl_policy.specs.Policy.{SecurityPolicy, greatest_of, is_admin, is_trusted, is_present}
use Rattle.bl_policy.specs.RuleEffect.{document_of}
use Rattle.bl_explain.specs.declared.rules.RuleGrounds.{RuleGrounds}
use Rattle.bl_explain.specs.declared.rules.RuleTests.{RuleTests}
use Rattle.bl_explain.specs.declared.tests.Tested.{Tested}

-- what decides a rule: its speaker's flags and greatest level, and whether its document, if it has one, is present
abbrev pub rule_grounds_of : SecurityPolicy → ℕ → Rule → RuleGrounds
rule_grounds_of p s rule =
    record {
      admin = is_admin p s;
      trusted = is_trusted p s;
      greatest = greatest_of p s;
      present = option_map (is_present p) (document_of rule);
    }

-- Own choice, as the policy's: the conditions of a rule of subject s, in the order in which it is judged.
abbrev pub rule_tests_of : SecurityPolicy → ℕ → Rule → RuleTests
rule_tests_of p s (Give t o m) = record { first = record { clause = failing.Admin; holds = is_admin p s }; second = None }
rule_tests_of p s (Rescind t o m) = record { first = record { clause = failing.Admin; holds = is_admin p s }; second = None }
rule_tests_of p s (Current level) = record { first = record { clause = failing.Greatest; holds = dominates (greatest_of p s) level }; second = None }
rule_tests_of p s (Classify o level) =
    record {
      first = record { clause = failing.Admin; holds = is_admin p s };
      second = Some (record { clause = failing.Trusted; holds = is_trusted p s });
    }
rule_tests_of p s (Create o) =
    record {
      first = record { clause = failing.Admin; holds = is_admin p s };
      second = Some (record { clause = failing.Present; holds = not (is_present p o) });
    }
rule_tests_of p s (Delete o) =
    record {
      first = record { clause = failing.Admin; holds = is_admin p s };
      second = Some (record { clause = failing.Absent; holds = is_present p o });
    }

-- whether the document of a rule is present; a rule without one has none that is
abbrev pub is_there : RuleGrounds → Bool
is_there g = unwrap_or g.present false

-- the same tests, asked of the grounds
abbrev pub rule_tests_on : RuleGrounds → Rule → RuleTests
rule_tests_on g (Give t o m) = record { first = record { clause = failing.Admin; holds = g.admin }; second = None }
rule_tests_on g (Rescind t o m) = record { first = record { clause = failing.Admin; holds = g.admin }; second = None }
rule_tests_on g (Current level) = record { first = record { clause = failing.Greatest; holds = dominates g.greatest level }; second = None }
rule_tests_on g (Classify o level) =
    record { first = record { clause = failing.Admin; holds = g.admin }; second = Some (record { clause = failing.Trusted; holds = g.trusted }) }
rule_tests_on g (Create o) =
    record { first = record { clause = failing.Admin; holds = g.admin }; second = Some (record { clause = failing.Present; holds = not (is_there g) }) }
rule_tests_on g (Delete o) =
    record { first = record { clause = failing.Admin; holds = g.admin }; second = Some (record { clause = failing.Absent; holds = is_there g }) }

-- a second condition, where there is one
abbrev pub and_second : Option Tested → List Tested
and_second None = []
and_second (Some tested) = tested ∷ []

-- the answers in the order in which the rule is judged
abbrev pub in_turn : RuleTests → List Tested
in_turn t = t.first ∷ and_second t.second
