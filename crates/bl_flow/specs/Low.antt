-- What is low: what a level dominates.
use Rattle.std.specs.Prelude.{◌≡◌, ℕ, Bool, IsTrue, List, [], slice_index_or}
use Rattle.bl_level.specs.Level.{SecurityLevel, dominates, join_of}
use Rattle.bl_policy.specs.Policy.{SecurityPolicy, level_of}
use Rattle.bl_setup.specs.Setup.{Setup}
use Rattle.bl_order.specs.Machine.{State, is_lost}
use Rattle.bl_order.specs.Order.{Entry}
use Rattle.bl_order.specs.Past.{Past, place, policy_before, content_before}

-- A history: the setup that it begins with, which of its places are lost, and its order.
pub record History : Type 0 where
  pub setup : Setup
  pub lost : ℕ → Bool
  pub order : List Entry

-- what is said of place n
abbrev pub place_in : History → ℕ → Past
place_in history n = place history.setup history.lost history.order n

-- the policy at place n
abbrev pub policy_in : History → ℕ → SecurityPolicy
policy_in history n = policy_before history.setup history.lost history.order n

-- the content of a document at place n
abbrev pub content_in : History → ℕ → ℕ → List ℕ
content_in history doc n = content_before history.setup history.lost history.order doc n

-- the history of a state
abbrev pub history_of : State → History
history_of x = record { setup = x.setup; lost = is_lost x; order = x.order }

-- a document is low where the level dominates the document's
abbrev pub is_low_document : SecurityLevel → SecurityPolicy → ℕ → Bool
is_low_document level policy doc = dominates level (level_of policy doc)

-- a place is low where the level dominates the join of the level at which it runs (Bell and La Padula 1976, current
-- level) and that which it carries (own choice)
abbrev pub is_low_place : SecurityLevel → History → ℕ → Bool
is_low_place level history n = dominates level (join_of (place_in history n).level (place_in history n).carried)

-- the setups have one policy, one version by which they are judged, and one content of each low document
pub record AgreeLow (level : SecurityLevel) (setup other : Setup) : Type 0 where
  pub policy : other.policy ≡ setup.policy
  pub version : other.version ≡ setup.version
  pub contents : (doc : ℕ) → IsTrue (is_low_document level setup.policy doc)
      → slice_index_or other.contents doc [] ≡ slice_index_or setup.contents doc []
