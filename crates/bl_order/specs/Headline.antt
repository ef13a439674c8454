-- What a trail leads to, and what holds of every such state.
use Rattle.std.specs.Prelude.{◌≡◌, ℕ, ◌<◌, ◌≤◌, false, IsTrue, ◌⊎◌, List, [], length, if◌then◌else◌}
use Rattle.bl_work.specs.declared.work.Work.{Work}
use Rattle.bl_work.specs.Effects.{after}
use Rattle.bl_setup.specs.Setup.{Setup}
use Rattle.bl_order.specs.Order.{accesses_of, is_declared}
use Rattle.bl_order.specs.Past.{changed, may_alter, has_deleted}
use Rattle.bl_order.specs.Machine.{State, Event, Opens, Admits, Starts, Ends, Loses, past_at, is_lost, has_ended, runs, MayStart, Needs, IsTrail, change, start, state_after}
use Rattle.bl_order.specs.Now.{policy_at, policy_now, content_at, content_now, IsFirstToAlter}
use Rattle.bl_order.specs.Laws.{IsClosed}
use Rattle.bl_order.specs.Legal.{IsLegal}

-- some trail leads to the state
pub record IsReached (x : State) : Type 0 where
  pub setup : Setup
  pub limit : ℕ
  pub events : List Event
  pub trail : IsTrail (start setup limit) events
  pub leads : x ≡ state_after (start setup limit) events

-- What stands beside the headline (TheHeadline), of a state: places find the policy and the contents of their place, nothing is
-- stuck, what runs is told as before, the ended places are closed, and the order is legal.
pub record Holds (x : State) : Type 0 where
  -- the policy now is the policy at each running place, and at each that may start
  pub at_running : (n : ℕ) → n < length x.order → IsTrue (runs x n) → policy_now x ≡ policy_at x n
  pub at_ready : (n : ℕ) → MayStart x n → policy_now x ≡ policy_at x n
  -- a place that may start finds of each document that it declares the content at that place
  pub content_at_ready : (n doc : ℕ) → MayStart x n → IsTrue (is_declared (accesses_of (past_at x n).task) doc)
      → content_now x doc ≡ content_at x doc n
  -- and a running place still finds it
  pub content_at_running : (n doc : ℕ) → n < length x.order → IsTrue (runs x n) → IsTrue (is_declared (accesses_of (past_at x n).task) doc)
      → content_now x doc ≡ content_at x doc n
  -- the content now is the content at the first place that is still to alter it, or at the end of the order, and there is one
  pub content_at_first : (doc m : ℕ) → IsFirstToAlter x doc m → content_now x doc ≡ content_at x doc m
  pub first_there : (doc : ℕ) → (m : ℕ) × IsFirstToAlter x doc m
  -- where a place has not ended, one at or before it runs or may start
  pub not_stuck : (n : ℕ) → n < length x.order → has_ended x n ≡ false → (m : ℕ) × (m ≤ n) × (IsTrue (runs x m) ⊎ MayStart x m)
  -- no event but its own loss changes what is said of a place that runs
  pub running_stays : (event : Event) → Needs x event → (n : ℕ) → n < length x.order → IsTrue (runs x n) → (event ≡ Loses n → ⊥)
      → past_at (change x event) n ≡ past_at x n
  -- the ended places are closed, so that the frame law speaks of them
  pub closed : IsClosed x.setup (is_lost x) x.order (has_ended x)
  -- the order is legal
  pub legal : IsLegal x.setup (is_lost x) x.order

-- how the policy and the contents now move with each event
pub record MovesOn (x : State) : Type 0 where
  -- a start changes the policy as its place's answer says, and no content but that of a document that its place deletes
  pub start_policy : (n : ℕ) → MayStart x n
      → policy_now (change x (Starts n)) ≡ changed (past_at x n).answer (past_at x n).task (past_at x n).subject (policy_now x)
  pub start_content : (n doc : ℕ) → MayStart x n → content_now (change x (Starts n)) doc ≡ (if has_deleted (past_at x n) doc then [] else content_now x doc)
  -- an end changes no policy, and by the place's effects each document that it declares append or write
  pub end_policy : (n : ℕ) → IsTrue (runs x n) → policy_now (change x (Ends n)) ≡ policy_now x
  pub end_content : (n doc : ℕ) → IsTrue (runs x n)
      → content_now (change x (Ends n)) doc
      ≡ (if may_alter (past_at x n).task doc
      then after (content_now x doc) (past_at x n).effects doc
      else content_now x doc)
  -- a loss, a line and an opening change neither
  pub loss_policy : (n : ℕ) → Needs x (Loses n) → policy_now (change x (Loses n)) ≡ policy_now x
  pub loss_content : (n doc : ℕ) → Needs x (Loses n) → content_now (change x (Loses n)) doc ≡ content_now x doc
  pub line_policy : (session ordinal : ℕ) (work : Work) → Needs x (Admits session ordinal work)
      → policy_now (change x (Admits session ordinal work)) ≡ policy_now x
  pub line_content : (session ordinal : ℕ) (work : Work) (doc : ℕ) → Needs x (Admits session ordinal work)
      → content_now (change x (Admits session ordinal work)) doc ≡ content_now x doc
  pub opening_policy : (subject : ℕ) → Needs x (Opens subject) → policy_now (change x (Opens subject)) ≡ policy_now x
  pub opening_content : (subject doc : ℕ) → Needs x (Opens subject)
      → content_now (change x (Opens subject)) doc ≡ content_now x doc
