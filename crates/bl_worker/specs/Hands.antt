-- What came of an entry that was begun, and what a worker has in hand.
use Rattle.std.specs.Prelude.{◌≡◌, ℕ, ◌+◌, ◌<◌, ◌≤◌, ◌⊎◌, IsTrue, List, ◌++◌, length, Some, slice_get}
use Rattle.bl_order.specs.Machine.{Starts, has_ended}
use Rattle.bl_eval.specs.Loan.{Loan}
use Rattle.bl_gate.specs.Counts.{times}
use Rattle.bl_gate.specs.Gates.{PassView, Calls, HasLoanInHand, state_seen}
use Rattle.bl_worker.specs.Turns.{HasWorked, IsTurnOf, Settles}
use Rattle.bl_worker.specs.declared.hand.Hand.{Hand}
use Rattle.bl_worker.specs.declared.hand.Hand.TheVariants.{Empty, Ran, Failed}
use Rattle.bl_worker.specs.declared.turn.Begun.{Begun}
use Rattle.bl_worker.specs.declared.turn.Begun.TheVariants.{Over, Runs}
use Rattle.bl_worker.specs.declared.turn.Turn.{Turn}
use Rattle.bl_worker.specs.declared.turn.Turn.TheVariants.{Idle, Missed, Denied, Done, Lost}

-- what came of an entry that was begun is of this entry
abbrev pub IsBegunOf : ℕ → Begun → Type 0
IsBegunOf n (Over turn) = IsTurnOf n turn
IsBegunOf n (Runs lent) = lent.entry ≡ n

-- It is over with the entry, as the turn says, or the entry runs, and that it started is the pass's own event.
abbrev pub HasBegun : PassView → PassView → Begun → Type 0
HasBegun before after (Over turn) = HasWorked before after turn × Settles before after
HasBegun before after (Runs lent) = HasLoanInHand after lent × Calls before (Starts lent.entry) (λ _. Unit {0}) after

abbrev pub IsNoMiss : Turn → Type 0
IsNoMiss Idle = Unit {0}
IsNoMiss (Missed n) = ⊥
IsNoMiss (Denied n) = Unit {0}
IsNoMiss (Done n) = Unit {0}
IsNoMiss (Lost n) = Unit {0}

abbrev pub MissesNone : Begun → Type 0
MissesNone (Over turn) = IsNoMiss turn
MissesNone (Runs lent) = Unit {0}

-- how many events came of it: none where nothing was ready, or the entry was missed
abbrev pub events_in : Turn → ℕ
events_in Idle = 0
events_in (Missed n) = 0
events_in (Denied n) = 1
events_in (Done n) = 1
events_in (Lost n) = 1

abbrev pub events_of : Begun → ℕ
events_of (Over turn) = events_in turn
events_of (Runs lent) = 1

-- the pass has made so many events since then
abbrev pub HasMade : ℕ → PassView → PassView → Type 0
HasMade count before after = length after.own ≡ length before.own + count

-- the entry that runs
abbrev pub RunsEntry : Begun → ℕ → Type 0
RunsEntry (Over turn) n = ⊥
RunsEntry (Runs lent) n = lent.entry ≡ n

-- what runs is in the pass's hand
abbrev pub IsLent : PassView → Begun → Type 0
IsLent pass (Over turn) = Unit {0}
IsLent pass (Runs lent) = HasLoanInHand pass lent

-- the entry that a worker has in hand
abbrev pub Holds : Hand → ℕ → Type 0
Holds Empty n = ⊥
Holds (Ran done) n = done.entry ≡ n
Holds (Failed unrun) n = unrun.entry ≡ n

-- and its pass has it
abbrev pub HasInHand : PassView → Hand → Type 0
HasInHand pass Empty = Unit {0}
HasInHand pass (Ran done) = HasLoanInHand pass done
HasInHand pass (Failed unrun) = HasLoanInHand pass unrun

-- what was lent is in hand
abbrev pub IsHandOf : Loan → Hand → Type 0
IsHandOf lent Empty = ⊥
IsHandOf lent (Ran done) = done ≡ lent
IsHandOf lent (Failed unrun) = unrun ≡ lent

-- Every entry that the pass has started since then has ended, but for those in hand.
pub record SettlesBut (Held : ℕ → Type 0) (before after : PassView) : Type 0 where
  pub gained : List ℕ
  pub own : after.own ≡ before.own ++ gained
  pub within : (p : ℕ) → 1 ≤ times p gained → p < length after.seen
  pub settled : (p n : ℕ) → 1 ≤ times p gained → slice_get after.seen p ≡ Some (Starts n)
      → (IsTrue (has_ended (state_seen after) n)) ⊎ Held n
