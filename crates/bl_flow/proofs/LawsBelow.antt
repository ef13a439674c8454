-- What the crates below promise by laws, as the proofs here use it.
use Rattle.std.specs.Prelude.{◌≡◌, ◌↔◌, ℕ, ◌<◌, Bool, IsTrue, List, All, Some, None, slice_get}
use Rattle.bl_level.specs.Level.{SecurityLevel, dominates, Dominates}
use Rattle.bl_policy.specs.FirstFault.{first_fault}
use Rattle.bl_policy.specs.Policy.{SecurityPolicy, is_trusted}
use Rattle.bl_policy.specs.Properties.{IsGranted}
use Rattle.bl_policy.specs.RuleEffect.{after_rule}
use Rattle.bl_policy.specs.declared.access.Access.{Access}
use Rattle.bl_policy.specs.declared.rule.Rule.{Rule}
use Rattle.bl_work.specs.Effects.{effects_of}
use Rattle.bl_work.specs.Laws.{LookAlike}
use Rattle.bl_work.specs.Modes.{KeepsModes}
use Rattle.bl_work.specs.Statements.{Statements}
use Rattle.bl_setup.specs.Setup.{Setup}
use Rattle.bl_order.specs.Laws.{FollowsItsParent, LineCarriesNothing, RulesMakeThePolicy}
use Rattle.bl_order.specs.Order.{Child, Entry}

-- the test of dominance says dominance
abbrev pub DominanceIsTested : Type 0
DominanceIsTested = (a b : SecurityLevel) → IsTrue (dominates a b) ↔ Dominates a b

-- a child speaks for its parent's subject, runs what its parent spawned, and carries the levels at which its parents ran
abbrev pub ChildrenFollow : Type 0
ChildrenFollow =
    (setup : Setup) (lost : ℕ → Bool) (order : List Entry) (n parent which : ℕ)
    → parent < n → slice_get order n ≡ Some (Child parent which) → FollowsItsParent setup lost order n parent which

-- the policy goes on from place to place as rules change it
abbrev pub RulesMake : Type 0
RulesMake = (setup : Setup) (lost : ℕ → Bool) (order : List Entry) (n : ℕ) → RulesMakeThePolicy setup lost order n

-- no rule makes a subject trusted, nor takes that away
abbrev pub TrustStays : Type 0
TrustStays = (p : SecurityPolicy) (s u : ℕ) (rule : Rule) → is_trusted (after_rule p s rule) u ≡ is_trusted p u

pub record LawsBelow : Type 0 where
  pub dominance : DominanceIsTested
  -- where no access is at fault, each is granted
  pub granted : (p : SecurityPolicy) (s : ℕ) (carried : SecurityLevel) (accesses : List Access)
      → (first_fault p s carried accesses ≡ None) ↔ All (λ access. IsGranted p s carried access.doc access.mode) accesses
  -- a body that keeps to its accesses does the same on contents that are the same where it may look
  pub blind : (accesses : List Access) (contents others : ℕ → List ℕ) (body : Statements)
      → LookAlike accesses contents others → KeepsModes accesses body → effects_of contents body ≡ effects_of others body
  pub children : ChildrenFollow
  pub lines : (setup : Setup) (lost : ℕ → Bool) (order : List Entry) (n : ℕ) → LineCarriesNothing setup lost order n
  pub rules : RulesMake
