-- What is explained of a run: by its policy at a moment, and by the rules that made it.
use Rattle.std.specs.Prelude.{◌≡◌, ℕ, suc, List, [], ◌∷◌, ◌++◌, Some, if◌then◌else◌}
use Rattle.bl_policy.specs.FirstFault.{first_fault}
use Rattle.bl_policy.specs.RuleEffect.{rule_fault}
use Rattle.bl_policy.specs.declared.denial.Denial.{Denial}
use Rattle.bl_policy.specs.declared.rule.Rule.{Rule}
use Rattle.bl_work.specs.Statements.{Part}
use Rattle.bl_work.specs.declared.answer.Answer.TheVariants.{Denied}
use Rattle.bl_order.specs.Machine.{State, Event, Opens, Admits, Starts, Ends, Loses, change, past_at}
use Rattle.bl_order.specs.Now.{policy_now}
use Rattle.bl_order.specs.Order.{Task, Runs, Applies, accesses_of}
use Rattle.bl_order.specs.Past.{Past, was_lost}
use Rattle.bl_explain.specs.declared.since.Applied.{Applied}

-- the rule of a task, as one that this event applies for this subject: a behaviour has none
abbrev pub rule_of : ℕ → ℕ → Task → List Applied
rule_of event subject (Runs script index) = []
rule_of event subject (Applies rule) = record { event = event; speaker = subject; rule = rule } ∷ []

-- the rule that the start of a place applies
abbrev pub applied_by : ℕ → Past → List Applied
applied_by event past = if was_lost past.answer then [] else rule_of event past.subject past.task

-- the rules that events apply behind this state, which stands behind `count` events: each is applied at its start, and events count from 1
abbrev pub rules_of : ℕ → State → List Event → List Applied
rules_of count x [] = []
rules_of count x (Opens subject ∷ events) = rules_of (suc count) (change x (Opens subject)) events
rules_of count x (Admits session ordinal work ∷ events) = rules_of (suc count) (change x (Admits session ordinal work)) events
rules_of count x (Starts n ∷ events) = applied_by (suc count) (past_at x n) ++ rules_of (suc count) (change x (Starts n)) events
rules_of count x (Ends n ∷ events) = rules_of (suc count) (change x (Ends n)) events
rules_of count x (Loses n ∷ events) = rules_of (suc count) (change x (Loses n)) events

-- What the answer of a place says that may start is what the policy at that moment says: a behaviour is denied with the first fault of
-- its accesses, by its subject and the level that it carries, and a rule with its failing condition.
pub record IsOfItsMoment (x : State) (n : ℕ) : Type 0 where
  pub behaviour : (script : List Part) (index : ℕ) (denial : Denial) → (past_at x n).task ≡ Runs script index → (past_at x n).answer ≡ Denied denial
      → first_fault (policy_now x) (past_at x n).subject (past_at x n).carried (accesses_of (Runs script index)) ≡ Some denial
  pub rule : (rule : Rule) (denial : Denial) → (past_at x n).task ≡ Applies rule → (past_at x n).answer ≡ Denied denial
      → rule_fault (policy_now x) (past_at x n).subject rule ≡ Some denial
