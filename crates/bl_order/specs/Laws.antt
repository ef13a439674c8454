-- What is said of places, in the words of their answers, contents and children.
use Rattle.std.specs.Prelude.{◌≡◌, ℕ, suc, ◌-◌, ◌<◌, ◌≤◌, Bool, true, false, ◌&&◌, ◌||◌, ◌==◌, List, [], ◌++◌, length, slice_index_or, Option, Some, None, slice_get, All}
use Rattle.bl_level.specs.Level.{join_of}
use Rattle.bl_policy.specs.Policy.{current_of, lowest}
use Rattle.bl_policy.specs.Properties.{IsPresent}
use Rattle.bl_policy.specs.RuleEffect.{rule_makes, after_rule}
use Rattle.bl_policy.specs.declared.access.Access.{Access}
use Rattle.bl_policy.specs.declared.denial.Denial.{Denial}
use Rattle.bl_policy.specs.declared.rule.Rule.{Rule}
use Rattle.bl_work.specs.Effects.{after, children}
use Rattle.bl_work.specs.declared.answer.Answer.TheVariants.{RuleDone, Denied, Lost}
use Rattle.bl_work.specs.declared.work.Work.{Work}
use Rattle.bl_setup.specs.Setup.{Setup}
use Rattle.bl_setup.specs.declared.version.Version.TheVariants.{One, Two}
use Rattle.bl_order.specs.Order.{Entry, Task, Applies, accesses_of, is_rule, conflict, Line, Child}
use Rattle.bl_order.specs.Past.{place, policy_before, content_before, is_done, may_alter, has_deleted, child_task, deeds, fault_of_task, granted}

-- the places of an order keep their records where more entries come
abbrev pub KeepsPlaces : Setup → (ℕ → Bool) → List Entry → List Entry → Type 0
KeepsPlaces setup lost order more = (n : ℕ) → n < length order → place setup lost (order ++ more) n ≡ place setup lost order n

-- what is said of a place is the same for two sets of lost places that agree up to it
abbrev pub RestsOnLossesBefore : Setup → List Entry → ℕ → Type 0
RestsOnLossesBefore setup order n =
    (lost others : ℕ → Bool) → ((k : ℕ) → k ≤ n → lost k ≡ others k) → place setup lost order n ≡ place setup others order n

module _ (setup : Setup) (lost : ℕ → Bool) (order : List Entry) where
  -- what the policy at a place has against what it does
  abbrev pub fault_at : ℕ → Option Denial
  fault_at n =
      fault_of_task (policy_before setup lost order n) (place setup lost order n).subject (place setup lost order n).carried
      (place setup lost order n).task

  -- the place ran, and it declares the document append or write
  abbrev pub wrote : ℕ → ℕ → Bool
  wrote doc n = is_done (place setup lost order n).answer && may_alter (place setup lost order n).task doc

  -- the place wrote the document, or deleted it
  abbrev pub wrote_or_deleted : ℕ → ℕ → Bool
  wrote_or_deleted doc n = wrote doc n || has_deleted (place setup lost order n) doc

-- A lost place answers so; another is denied with what the policy at its place has against it, or granted where that is
-- nothing. What ran did its deeds on the contents at its place, and what did not run did nothing.
pub record IsAnswered (setup : Setup) (lost : ℕ → Bool) (order : List Entry) (n : ℕ) : Type 0 where
  pub gone : lost n ≡ true → (place setup lost order n).answer ≡ Lost
  pub refused : (denial : Denial) → lost n ≡ false → fault_at setup lost order n ≡ Some denial
      → (place setup lost order n).answer ≡ Denied denial
  pub let_run : lost n ≡ false → fault_at setup lost order n ≡ None
      → (place setup lost order n).answer
      ≡ granted (place setup lost order n).task (deeds (place setup lost order n).task (λ doc. content_before setup lost order doc n))
  pub deeds_done : is_done (place setup lost order n).answer ≡ true
      → (place setup lost order n).effects ≡ deeds (place setup lost order n).task (λ doc. content_before setup lost order doc n)
  pub nothing_done : is_done (place setup lost order n).answer ≡ false → (place setup lost order n).effects ≡ []

-- The content at a place is the setup's where no place before it wrote the document or deleted it. Otherwise the last place that did so has
-- changed what stood there at its own place, where it wrote, and left nothing, where it deleted.
pub record LooksBack (setup : Setup) (lost : ℕ → Bool) (order : List Entry) (doc n : ℕ) : Type 0 where
  pub untouched : ((k : ℕ) → k < n → wrote_or_deleted setup lost order doc k ≡ false)
      → content_before setup lost order doc n ≡ slice_index_or setup.contents doc []
  pub last_wrote : (m : ℕ) → m < n → wrote setup lost order doc m ≡ true
      → ((k : ℕ) → m < k → k < n → wrote_or_deleted setup lost order doc k ≡ false)
      → content_before setup lost order doc n
      ≡ after (content_before setup lost order doc m) (place setup lost order m).effects doc
  pub last_deleted : (m : ℕ) → m < n → has_deleted (place setup lost order m) doc ≡ true
      → ((k : ℕ) → m < k → k < n → wrote_or_deleted setup lost order doc k ≡ false)
      → content_before setup lost order doc n ≡ []

-- How the policy goes on from place to place: a rule changes it as rules do, one that is done makes its change, and what is
-- refused, lost or no rule changes nothing.
pub record RulesMakeThePolicy (setup : Setup) (lost : ℕ → Bool) (order : List Entry) (n : ℕ) : Type 0 where
  pub at_first : policy_before setup lost order 0 ≡ setup.policy
  pub by_a_rule : (rule : Rule) → (place setup lost order n).task ≡ Applies rule → lost n ≡ false
      → policy_before setup lost order (suc n) ≡ after_rule (policy_before setup lost order n) (place setup lost order n).subject rule
  pub by_one_that_is_done : (rule : Rule) → (place setup lost order n).task ≡ Applies rule → (place setup lost order n).answer ≡ RuleDone
      → policy_before setup lost order (suc n) ≡ rule_makes (policy_before setup lost order n) (place setup lost order n).subject rule
  pub by_none_refused : (denial : Denial) → (place setup lost order n).answer ≡ Denied denial
      → policy_before setup lost order (suc n) ≡ policy_before setup lost order n
  pub by_none_lost : lost n ≡ true → policy_before setup lost order (suc n) ≡ policy_before setup lost order n
  pub by_no_behaviour : is_rule (place setup lost order n).task ≡ false
      → policy_before setup lost order (suc n) ≡ policy_before setup lost order n

-- a rule conflicts with every task, before it and behind it
abbrev pub RulesStandAlone : Type 0
RulesStandAlone = (rule task : Task) → is_rule rule ≡ true → (conflict rule task ≡ true) × (conflict task rule ≡ true)

-- where no rule stands before a place, the policy there is the setup's
abbrev pub LeavesThePolicy : Setup → (ℕ → Bool) → List Entry → ℕ → Type 0
LeavesThePolicy setup lost order n =
    ((k : ℕ) → k < n → is_rule (place setup lost order k).task ≡ false) → policy_before setup lost order n ≡ setup.policy

-- a document that is not present at a place is empty there
abbrev pub AbsentIsEmpty : Setup → (ℕ → Bool) → List Entry → ℕ → ℕ → Type 0
AbsentIsEmpty setup lost order doc n = ¬ IsPresent (policy_before setup lost order n) doc → content_before setup lost order doc n ≡ []

-- where a place runs, each document that it declares is present there
abbrev pub UsesPresent : Setup → (ℕ → Bool) → List Entry → ℕ → Type 0
UsesPresent setup lost order n =
    is_done (place setup lost order n).answer ≡ true
    → All (λ (a : Access). IsPresent (policy_before setup lost order n) a.doc) (accesses_of (place setup lost order n).task)

-- A child speaks for its parent's subject, runs the behaviour that its parent's spawn of its number named, and carries the level at which its
-- parent ran with what that carried; in version 1 it carries nothing.
pub record FollowsItsParent (setup : Setup) (lost : ℕ → Bool) (order : List Entry) (n parent which : ℕ) : Type 0 where
  pub subject : (place setup lost order n).subject ≡ (place setup lost order parent).subject
  pub task : (place setup lost order n).task
      ≡ child_task (place setup lost order parent).task (slice_index_or (children (place setup lost order parent).effects) (which - 1) 0)
  pub carried : setup.version ≡ Two → (place setup lost order n).carried
      ≡ join_of (place setup lost order parent).level (place setup lost order parent).carried
  pub carries_nothing : setup.version ≡ One → (place setup lost order n).carried ≡ lowest

-- a line carries nothing
abbrev pub LineCarriesNothing : Setup → (ℕ → Bool) → List Entry → ℕ → Type 0
LineCarriesNothing setup lost order n =
    (session ordinal subject : ℕ) (work : Work) → slice_get order n ≡ Some (Line session ordinal subject work)
    → (place setup lost order n).carried ≡ lowest

-- a place runs at its subject's current level, by the policy at the place
abbrev pub RunsAtItsLevel : Setup → (ℕ → Bool) → List Entry → ℕ → Type 0
RunsAtItsLevel setup lost order n =
    (place setup lost order n).level ≡ current_of (policy_before setup lost order n) (place setup lost order n).subject

-- A set of ended places is closed: where a place has ended, so has each earlier one that it conflicts with, and each child
-- stands behind its parent, which has ended.
pub record IsClosed (setup : Setup) (lost : ℕ → Bool) (order : List Entry) (ended : ℕ → Bool) : Type 0 where
  pub conflicts : (m n : ℕ) → m < n → n < length order → ended n ≡ true
      → conflict (place setup lost order m).task (place setup lost order n).task ≡ true → ended m ≡ true
  pub parents : (n parent which : ℕ) → slice_get order n ≡ Some (Child parent which) → (parent < n) × (ended parent ≡ true)

-- what is said of ended places rests on which of them are lost, and not on what becomes of the others
abbrev pub RestsOnEnded : Setup → List Entry → (ℕ → Bool) → (ℕ → Bool) → Type 0
RestsOnEnded setup order ended lost =
    (others : ℕ → Bool) → ((k : ℕ) → ended k ≡ true → lost k ≡ others k)
    → (n : ℕ) → n < length order → ended n ≡ true → place setup lost order n ≡ place setup others order n

-- a place more is lost
abbrev pub lost_too : (ℕ → Bool) → ℕ → ℕ → Bool
lost_too lost m n = lost n || (n == m)

-- The frame law: the answer of an ended place stays the same where the order grows, and where a place is lost that had not ended.
pub record KeepsAnswers (setup : Setup) (order : List Entry) (ended lost : ℕ → Bool) : Type 0 where
  pub grown : (more : List Entry) (n : ℕ) → n < length order → ended n ≡ true
      → (place setup lost (order ++ more) n).answer ≡ (place setup lost order n).answer
  pub gained : (m n : ℕ) → ended m ≡ false → n < length order → ended n ≡ true
      → (place setup (lost_too lost m) order n).answer ≡ (place setup lost order n).answer
