-- The policy and the contents, at a place and now.
use Rattle.std.specs.Prelude.{◌≡◌, ℕ, zero, suc, ◌<◌, ◌≤◌, Bool, false, IsTrue, if◌then◌else◌, List, [], ◌∷◌, length}
use Rattle.bl_policy.specs.Policy.{SecurityPolicy}
use Rattle.bl_setup.specs.Setup.{Setup}
use Rattle.bl_order.specs.Order.{Entry}
use Rattle.bl_order.specs.Past.{Past, place, policy_of, content_of, policy_before, content_before, may_alter}
use Rattle.bl_order.specs.Machine.{State, past_at, is_lost, has_ended}

-- PolicyAt: the policy at place n, which all the places before it make
abbrev pub policy_at : State → ℕ → SecurityPolicy
policy_at x n = policy_before x.setup (is_lost x) x.order n

-- ContentAt: the content of a document at place n, which all the places before it make
abbrev pub content_at : State → ℕ → ℕ → List ℕ
content_at x doc n = content_before x.setup (is_lost x) x.order doc n

module _ (setup : Setup) (lost : ℕ → Bool) (order : List Entry) (ended : ℕ → Bool) where
  -- the records of the ended places before n, newest first
  abbrev pub ended_before : ℕ → List Past
  ended_before zero = []
  ended_before (suc n) = if ended n then place setup lost order n ∷ ended_before n else ended_before n

-- the records of the ended places
abbrev pub ended_places : State → List Past
ended_places x = ended_before x.setup (is_lost x) x.order (has_ended x) (length x.order)

-- the policy now: what the ended places make of the setup's
abbrev pub policy_now : State → SecurityPolicy
policy_now x = policy_of x.setup (ended_places x)

-- the content of a document now: what the ended places make of the setup's
abbrev pub content_now : State → ℕ → List ℕ
content_now x doc = content_of x.setup (ended_places x) doc

-- m is the first place that is to alter the document and has not ended, or the end of the order
pub record IsFirstToAlter (x : State) (doc m : ℕ) : Type 0 where
  pub within : m ≤ length x.order
  pub all_before : (k : ℕ) → k < m → IsTrue (may_alter (past_at x k).task doc) → IsTrue (has_ended x k)
  pub itself : m < length x.order → IsTrue (may_alter (past_at x m).task doc) × (has_ended x m ≡ false)
