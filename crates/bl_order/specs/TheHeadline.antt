-- The headline, of a state that a trail leads to: one field for each phrase of its sentence, and beside them that what is held is present.
use Rattle.std.specs.Prelude.{◌≡◌, ◌↔◌, ◌⊎◌, ℕ, suc, ◌<◌, ◌≤◌, Bool, false, IsTrue, length, map, take, All, List, ◌++◌}
use Rattle.bl_level.specs.Level.{SecurityLevel}
use Rattle.bl_policy.specs.FirstFault.{IsFirstFault}
use Rattle.bl_policy.specs.Policy.{SecurityPolicy}
use Rattle.bl_policy.specs.Properties.{IsPresent, IsSecure, IsGranted}
use Rattle.bl_policy.specs.RuleEffect.{IsRuleFault}
use Rattle.bl_policy.specs.declared.access.Access.{Access}
use Rattle.bl_policy.specs.declared.denial.Denial.{Denial}
use Rattle.bl_work.specs.declared.answer.Answer.TheVariants.{Denied}
use Rattle.bl_setup.specs.Setup.{Setup}
use Rattle.bl_order.specs.AtHand.{IsAtHand}
use Rattle.bl_order.specs.Machine.{State, Event, Starts, Hold, MayStart, Needs, change, start, state_after, past_at, is_lost, has_ended, runs, held}
use Rattle.bl_order.specs.Now.{policy_at, policy_now, content_now}
use Rattle.bl_order.specs.Order.{Task, Runs, Applies, accesses_of, is_rule, unnamed}
use Rattle.bl_order.specs.Past.{Past, place, is_done}

-- the policy at the place allows each access that its task declares: each is granted there to who carries what the place does
abbrev pub IsAllowedAt : State → ℕ → Type 0
IsAllowedAt x n =
    All (λ (a : Access). IsGranted (policy_at x n) (past_at x n).subject (past_at x n).carried a.doc a.mode) (accesses_of (past_at x n).task)

-- the denial names what the policy has against a task first: of a behaviour the first access at fault with its first failed
-- property, of a rule its first failed condition
abbrev pub IsFirstFaultOf : SecurityPolicy → ℕ → SecurityLevel → Task → Denial → Type 0
IsFirstFaultOf policy subject carried (Runs script index) denial =
    IsFirstFault policy subject carried (accesses_of (Runs script index)) denial
IsFirstFaultOf policy subject carried (Applies rule) denial = IsRuleFault policy subject rule denial

-- what is said of place n by who is told the entries up to it alone, one after another, without sessions and ordinals, and
-- which of them are lost
abbrev pub told_alone : State → (ℕ → Bool) → ℕ → Past
told_alone x lost n = place x.setup lost (map unnamed (take (suc n) x.order)) n

-- who is told so is told of n, and of the places before it that have ended, whether they are lost
abbrev pub AgreeUpTo : State → (ℕ → Bool) → ℕ → Type 0
AgreeUpTo x lost n = (k : ℕ) → k ≤ n → IsTrue (has_ended x k) ⊎ (k ≡ n) → is_lost x k ≡ lost k

-- from x to y no policy, no content and no entry changes
pub record LeavesAll (x y : State) : Type 0 where
  pub policy : policy_now y ≡ policy_now x
  pub contents : (doc : ℕ) → content_now y doc ≡ content_now x doc
  pub order : y.order ≡ x.order

-- Bell and La Padula 1976 over Cheeseman et al. 2023. For every list of session lines and every interleaving of worker steps, a
-- behaviour runs exactly where the policy at its place in the admission order allows each declared access; its reply is the
-- one-thread monitor's there; a denial changes nothing and names the first failed clause, its subject and object; and the accesses
-- held at every moment satisfy the simple-security, star and discretionary properties.
pub record IsTheHeadline (x : State) : Type 0 where
  -- a behaviour runs exactly where the policy at its place allows each access that it declares
  pub runs_where_allowed : (n : ℕ) → MayStart x n → is_rule (past_at x n).task ≡ false
      → IsTrue (runs (change x (Starts n)) n) ↔ IsAllowedAt x n
  -- no start changes what is said of any place
  pub start_leaves : (k n : ℕ) → MayStart x k → past_at (change x (Starts k)) n ≡ past_at x n
  -- what does not run has ended with its start
  pub start_ends : (n : ℕ) → MayStart x n → is_done (past_at x n).answer ≡ false → IsTrue (has_ended (change x (Starts n)) n)
  -- a denial names the first fault of its place, by the policy there
  pub denied_rightly : (n : ℕ) (denial : Denial) → (past_at x n).answer ≡ Denied denial
      → IsFirstFaultOf (policy_at x n) (past_at x n).subject (past_at x n).carried (past_at x n).task denial
  -- and changes nothing: no policy, no content, and no child enters
  pub denied_idle : (n : ℕ) (denial : Denial) → MayStart x n → (past_at x n).answer ≡ Denied denial → LeavesAll x (change x (Starts n))
  -- what is said of a place that has ended, runs or may start is what is said by who is told the order alone up to it
  pub told_as_alone : (n : ℕ) → n < length x.order → IsAtHand x n → (lost : ℕ → Bool) → AgreeUpTo x lost n
      → told_alone x lost n ≡ past_at x n
  -- what has ended stays ended, and what is said of it stays
  pub ended_stays : (event : Event) → Needs x event → (n : ℕ) → IsTrue (has_ended x n) → IsTrue (has_ended (change x event) n)
  pub said_stays : (event : Event) → Needs x event → (n : ℕ) → n < length x.order → IsTrue (has_ended x n)
      → past_at (change x event) n ≡ past_at x n
  -- each access that is held has the three properties, under the policy now
  pub secure : All (λ (h : Hold). IsSecure (policy_now x) h.subject h.doc h.mode) (held x)
  -- and is of a document that is present
  pub present : All (λ (h : Hold). IsPresent (policy_now x) h.doc) (held x)

-- at every moment of a run: of the state that each first part of its events leads to
abbrev pub IsTheHeadlineThroughout : Setup → ℕ → List Event → Type 0
IsTheHeadlineThroughout setup limit events = (front rest : List Event) → events ≡ front ++ rest → IsTheHeadline (state_after (start setup limit) front)
