-- What a denial blames.
use Rattle.std.specs.Prelude.{◌≡◌, ◌<◌, ℕ, List, [], ◌∷◌, Option, Some, slice_get}
use Rattle.bl_level.specs.Level.{SecurityLevel}
use Rattle.bl_policy.specs.declared.access.Access.{Access}
use Rattle.bl_policy.specs.declared.denial.Denial.{Denial}
use Rattle.bl_policy.specs.FirstFault.{FailsFirst}
use Rattle.bl_policy.specs.Policy.{SecurityPolicy}
use Rattle.bl_policy.specs.Properties.{IsGranted}
use Rattle.bl_policy.specs.RuleEffect.{FailsCondition}
use Rattle.bl_order.specs.Order.{Task, accesses_of}
use Rattle.bl_order.specs.Machine.{State, Starts, past_at}
use Rattle.bl_order.specs.Now.{policy_now}
use Rattle.bl_explain.specs.Grounds.{grounds_of}
use Rattle.bl_explain.specs.RuleTests.{rule_grounds_of}
use Rattle.bl_report.specs.Items.{items_at}
use Rattle.bl_report.specs.declared.item.Blame.{Blame}
use Rattle.bl_report.specs.declared.item.Blame.TheVariants.{OfAccess, OfRule}
use Rattle.bl_report.specs.declared.item.Happening.TheVariants.{Denied}
use Rattle.bl_report.specs.declared.item.JudgedAccess.{JudgedAccess}

-- The access is one of those that are declared, those before it are granted, and it fails this first; its grounds are what decides it.
pub record FailsHere (p : SecurityPolicy) (s : ℕ) (carried : SecurityLevel) (accesses : List Access) (denial : Denial) (judged : JudgedAccess) : Type 0 where
  pub place : ℕ
  pub at : slice_get accesses place ≡ Some judged.access
  pub granted_before : (k : ℕ) (earlier : Access) → k < place → slice_get accesses k ≡ Some earlier → IsGranted p s carried earlier.doc earlier.mode
  pub fails : FailsFirst denial.clause p s carried judged.access.doc judged.access.mode
  pub object : denial.object ≡ Some judged.access.doc
  pub grounds : judged.grounds ≡ grounds_of p s carried judged.access

-- what is blamed fails first what the denial names
abbrev pub IsToBlame : SecurityPolicy → ℕ → SecurityLevel → Task → Denial → Blame → Type 0
IsToBlame p s carried task denial (OfAccess judged) = FailsHere p s carried (accesses_of task) denial judged
IsToBlame p s carried task denial (OfRule rule grounds) = FailsCondition denial.clause p s rule × (grounds ≡ rule_grounds_of p s rule)

-- What is told of a denied start is one item, and what it blames is to blame, by the policy that the start finds.
pub record IsBlamed (until : ℕ → Option ℕ) (since : ℕ → Access → Option ℕ) (x : State) (number n : ℕ) (denial : Denial) : Type 0 where
  pub blame : Blame
  pub item : items_at until since x number (Starts n)
      ≡ record { event = number; subject = (past_at x n).subject; happening = Denied n denial.clause blame } ∷ []
  pub to_blame : IsToBlame (policy_now x) (past_at x n).subject (past_at x n).carried (past_at x n).task denial blame
