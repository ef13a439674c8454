-- Since when what decides an access is as it is.
use Rattle.std.specs.Prelude.{◌≡◌, ◌<◌, ◌&&◌, ◌==◌, ℕ, suc, Bool, true, false, not, List, [], ◌∷◌, length, take, slice_get, Option, Some, None, if◌then◌else◌}
use Rattle.bl_level.specs.Level.{SecurityLevel}
use Rattle.bl_policy.specs.declared.access.Access.{Access}
use Rattle.bl_policy.specs.Policy.{SecurityPolicy, lowest}
use Rattle.bl_policy.specs.RuleEffect.{IsRuleOf, after_rule}
use Rattle.bl_explain.specs.declared.grounds.Grounds.{Grounds}
use Rattle.bl_explain.specs.declared.since.Applied.{Applied}
use Rattle.bl_explain.specs.declared.since.Since.{Since}
use Rattle.bl_explain.specs.Grounds.{grounds_of}

-- the speaker of a rule, its subject and its document are in the policy
abbrev pub KnowsApplied : SecurityPolicy → Applied → Type 0
KnowsApplied p rule = (rule.speaker < length p.subjects) × IsRuleOf p rule.rule

-- the policy after these rules, one after the other: one that is refused changes nothing
abbrev pub policy_after : SecurityPolicy → List Applied → SecurityPolicy
policy_after p [] = p
policy_after p (rule ∷ rules) = policy_after (after_rule p rule.speaker rule.rule) rules

-- whether two levels are one
abbrev pub is_same_level : SecurityLevel → SecurityLevel → Bool
is_same_level a b = (a.rank == b.rank) && (a.categories == b.categories)

-- whether two answers are one
abbrev pub is_same_answer : Bool → Bool → Bool
is_same_answer true b = b
is_same_answer false b = not b

-- the event, unless nothing changed there: then what made the value before
abbrev pub unless_same : Bool → ℕ → Option ℕ → Option ℕ
unless_same same event before = if same then before else Some event

-- what made the grounds, once an event led from some to others
abbrev pub noted : ℕ → Grounds → Grounds → Since → Since
noted event before next since =
    record {
      present = unless_same (is_same_answer before.present next.present) event since.present;
      level = unless_same (is_same_level before.level next.level) event since.level;
      current = unless_same (is_same_level before.current next.current) event since.current;
      allowed = unless_same (is_same_answer before.allowed next.allowed) event since.allowed;
    }

-- the setup made all of them
abbrev pub of_setup : Since
of_setup = record { present = None; level = None; current = None; allowed = None }

-- what made the grounds of an access of subject s, where rules were applied one after the other to a policy whose grounds had these since
abbrev pub since_behind : ℕ → Access → Since → SecurityPolicy → List Applied → Since
since_behind s access since p [] = since
since_behind s access since p (rule ∷ rules) =
    since_behind s access
    (noted rule.event (grounds_of p s lowest access) (grounds_of (after_rule p rule.speaker rule.rule) s lowest access) since)
    (after_rule p rule.speaker rule.rule) rules

-- the same, from a setup's policy on
abbrev pub since_of : SecurityPolicy → ℕ → Access → List Applied → Since
since_of p s access rules = since_behind s access of_setup p rules

module _ {A : Type 0} (value : SecurityPolicy → A) (p : SecurityPolicy) (rules : List Applied) where
  -- the rule at place k leaves the value as it was
  abbrev pub LeavesIt : ℕ → Type 0
  LeavesIt k = value (policy_after p (take (suc k) rules)) ≡ value (policy_after p (take k rules))

  -- the rule of this event, at some place of the list, changes the value, and none behind it does
  pub record ChangesItLast (event : ℕ) : Type 0 where
    pub place : ℕ
    pub rule : Applied
    pub at : slice_get rules place ≡ Some rule
    pub is : rule.event ≡ event
    pub changes : ¬ LeavesIt place
    pub kept : (k : ℕ) → place < k → k < length rules → LeavesIt k

  -- own choice, as of a line of a text that many hands wrote: what made a value is the last rule that changed it; the setup, where none did
  abbrev pub MadeIt : Option ℕ → Type 0
  MadeIt None = (k : ℕ) → k < length rules → LeavesIt k
  MadeIt (Some event) = ChangesItLast event
