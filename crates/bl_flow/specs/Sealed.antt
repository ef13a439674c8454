-- Which histories let nothing down to a level.
use Rattle.std.specs.Prelude.{◌≡◌, ℕ, suc, ◌<◌, Bool, true, false, IsTrue, length, slice_get, Some}
use Rattle.bl_level.specs.Level.{SecurityLevel}
use Rattle.bl_policy.specs.Policy.{is_trusted}
use Rattle.bl_policy.specs.declared.rule.Rule.TheVariants.{Give, Rescind, Current, Classify, Create, Delete}
use Rattle.bl_work.specs.Modes.{declares, observes}
use Rattle.bl_setup.specs.declared.version.Version.TheVariants.{One}
use Rattle.bl_order.specs.Legal.{IsLegal}
use Rattle.bl_order.specs.Order.{Task, Runs, Applies, Child, accesses_of}
use Rattle.bl_order.specs.Past.{is_done, may_alter}
use Rattle.bl_order.specs.Room.{IsBehaviourOrRule}
use Rattle.bl_flow.specs.Low.{History, place_in, policy_in, is_low_document, is_low_place}

-- a history may come about: its order is legal, and each place runs a behaviour of a script or applies a rule
pub record IsPossible (history : History) : Type 0 where
  pub legal : IsLegal history.setup history.lost history.order
  pub scripts : (n : ℕ) → n < length history.order → IsBehaviourOrRule (place_in history n).task

-- What the star property is for (Bell and La Padula 1976), asked with what a place carries (own choice): a low place
-- looks at low documents alone, and a low document is altered by low places alone.
pub record LetsNothingDown (level : SecurityLevel) (history : History) (n : ℕ) : Type 0 where
  pub looks : (doc : ℕ) → IsTrue (is_low_place level history n)
      → IsTrue (declares observes (accesses_of (place_in history n).task) doc)
      → IsTrue (is_low_document level (policy_in history n) doc)
  pub alters : (doc : ℕ) → IsTrue (may_alter (place_in history n).task doc)
      → IsTrue (is_low_document level (policy_in history n) doc) → IsTrue (is_low_place level history n)

-- what trusted subjects are granted lets nothing down: they are exempt from the star and the carry property
abbrev pub TrustedLetNothingDown : SecurityLevel → History → Type 0
TrustedLetNothingDown level history =
    (n : ℕ) → n < length history.order → IsTrue (is_trusted (policy_in history n) (place_in history n).subject)
    → IsTrue (is_done (place_in history n).answer) → LetsNothingDown level history n

-- no rule brings a document down
abbrev pub NoDocumentComesDown : SecurityLevel → History → Type 0
NoDocumentComesDown level history =
    (n doc : ℕ) → n < length history.order → IsTrue (is_low_document level (policy_in history (suc n)) doc)
    → IsTrue (is_low_document level (policy_in history n) doc)

-- no child comes down: where a child is low, so is its parent
abbrev pub NoChildComesDown : SecurityLevel → History → Type 0
NoChildComesDown level history =
    (n parent which : ℕ) → slice_get history.order n ≡ Some (Child parent which) → IsTrue (is_low_place level history n)
    → IsTrue (is_low_place level history parent)

-- A history is sealed at a level where nothing comes down to it by other ways than accesses that have the star and the
-- carry property. Of children it is asked in version 1 alone, where they carry nothing.
pub record IsSealed (level : SecurityLevel) (history : History) : Type 0 where
  pub trusted : TrustedLetNothingDown level history
  pub documents : NoDocumentComesDown level history
  pub children : history.setup.version ≡ One → NoChildComesDown level history

-- no trusted subject speaks
abbrev pub IsUntrusted : History → Type 0
IsUntrusted history =
    (n : ℕ) → n < length history.order → is_trusted history.setup.policy (place_in history n).subject ≡ false

-- whether a task is a rule that changes a level: a subject's current one, or a document's
abbrev pub changes_a_level : Task → Bool
changes_a_level (Runs script index) = false
changes_a_level (Applies (Give subject doc mode)) = false
changes_a_level (Applies (Rescind subject doc mode)) = false
changes_a_level (Applies (Current level)) = true
changes_a_level (Applies (Classify doc level)) = true
changes_a_level (Applies (Create doc)) = false
changes_a_level (Applies (Delete doc)) = false

-- a history is plain where no trusted subject speaks, and no rule changes a level
pub record IsPlain (history : History) : Type 0 where
  pub untrusted : IsUntrusted history
  pub levels_stay : (n : ℕ) → n < length history.order → changes_a_level (place_in history n).task ≡ false
