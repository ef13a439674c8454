-- Whose turn it was, and what it did.
use Rattle.std.specs.Prelude.{◌≡◌, ℕ, ◌<◌, ◌≤◌, Bool, false, IsTrue, ◌||◌, List, ◌++◌, length, Some, slice_get}
use Rattle.bl_work.specs.declared.answer.Answer.{Answer}
use Rattle.bl_work.specs.declared.answer.Answer.TheVariants as answers
use Rattle.bl_order.specs.Machine.{State, Event, Opens, Admits, Starts, Ends, Loses, MayStart, past_at, has_ended, runs}
use Rattle.bl_gate.specs.Counts.{times}
use Rattle.bl_gate.specs.Gates.{PassView, Calls, state_seen}
use Rattle.bl_worker.specs.declared.turn.Turn.{Turn}
use Rattle.bl_worker.specs.declared.turn.Turn.TheVariants.{Idle, Missed, Denied, Done, Lost}

-- it was a turn of this entry
abbrev pub IsTurnOf : ℕ → Turn → Type 0
IsTurnOf n Idle = ⊥
IsTurnOf n (Missed m) = m ≡ n
IsTurnOf n (Denied m) = m ≡ n
IsTurnOf n (Done m) = m ≡ n
IsTurnOf n (Lost m) = m ≡ n

-- the kinds of answers that turns name
abbrev pub IsDenied : Answer → Type 0
IsDenied (answers.Done shown) = ⊥
IsDenied answers.RuleDone = ⊥
IsDenied (answers.Denied denial) = Unit {0}
IsDenied answers.Lost = ⊥

abbrev pub IsDoneOrRuleDone : Answer → Type 0
IsDoneOrRuleDone (answers.Done shown) = Unit {0}
IsDoneOrRuleDone answers.RuleDone = Unit {0}
IsDoneOrRuleDone (answers.Denied denial) = ⊥
IsDoneOrRuleDone answers.Lost = ⊥

abbrev pub IsLost : Answer → Type 0
IsLost (answers.Done shown) = ⊥
IsLost answers.RuleDone = ⊥
IsLost (answers.Denied denial) = ⊥
IsLost answers.Lost = Unit {0}

-- an entry has ended, and its answer is of this kind
pub record HasEndedAs (x : State) (n : ℕ) (Kind : Answer → Type 0) : Type 0 where
  pub ended : IsTrue (has_ended x n)
  pub kind : Kind (past_at x n).answer

-- What a turn did, by what its pass was before and after. It was idle, and nothing may start there; or it missed an
-- entry, which may not start there; and then it was no event. Or it ended an entry, as it says.
abbrev pub HasWorked : PassView → PassView → Turn → Type 0
HasWorked before after Idle = (after.own ≡ before.own) × ((n : ℕ) → ¬ MayStart (state_seen after) n)
HasWorked before after (Missed n) = (after.own ≡ before.own) × (¬ MayStart (state_seen after) n)
HasWorked before after (Denied n) = HasEndedAs (state_seen after) n IsDenied
HasWorked before after (Done n) = HasEndedAs (state_seen after) n IsDoneOrRuleDone
HasWorked before after (Lost n) = HasEndedAs (state_seen after) n IsLost

-- what a turn with an entry that ran did
abbrev pub HasRun : PassView → Turn → Type 0
HasRun after Idle = ⊥
HasRun after (Missed n) = ⊥
HasRun after (Denied n) = ⊥
HasRun after (Done n) = HasEndedAs (state_seen after) n IsDoneOrRuleDone
HasRun after (Lost n) = HasEndedAs (state_seen after) n IsLost

-- one event of the pass's own, which is no start, has ended the entry
pub record Closes (n : ℕ) (before after : PassView) : Type 0 where
  pub event : Event
  pub is_no_start : (k : ℕ) → event ≡ Starts k → ⊥
  pub call : Calls before event (λ _. Unit {0}) after
  pub ended : IsTrue (has_ended (state_seen after) n)

-- an entry runs or has ended
abbrev pub has_begun : State → ℕ → Bool
has_begun x n = runs x n || has_ended x n

-- an entry that a turn missed had not begun where the turn began, and has begun where it ended
abbrev pub WasTaken : PassView → PassView → Turn → Type 0
WasTaken before after Idle = Unit {0}
WasTaken before after (Missed n) = (has_begun (state_seen before) n ≡ false) × IsTrue (has_begun (state_seen after) n)
WasTaken before after (Denied n) = Unit {0}
WasTaken before after (Done n) = Unit {0}
WasTaken before after (Lost n) = Unit {0}

-- Every entry that the pass has started since then has ended: each of its new positions is one that it has seen, and
-- where a start stands there, that entry has ended.
pub record Settles (before after : PassView) : Type 0 where
  pub gained : List ℕ
  pub own : after.own ≡ before.own ++ gained
  pub within : (p : ℕ) → 1 ≤ times p gained → p < length after.seen
  pub settled : (p n : ℕ) → 1 ≤ times p gained → slice_get after.seen p ≡ Some (Starts n)
      → IsTrue (has_ended (state_seen after) n)

-- The pass has made no event since then but such ones: each of its new positions is one that it has seen, and the event
-- that stands there is such a one at that position.
pub record Adds (Such : ℕ → Event → Type 0) (before after : PassView) : Type 0 where
  pub gained : List ℕ
  pub own : after.own ≡ before.own ++ gained
  pub within : (p : ℕ) → 1 ≤ times p gained → p < length after.seen
  pub events : (p : ℕ) (event : Event) → 1 ≤ times p gained → slice_get after.seen p ≡ Some event → Such p event

-- an event of a turn with such an entry: it starts, ends or is lost
abbrev pub IsEventOf : (ℕ → Type 0) → Event → Type 0
IsEventOf Entry (Opens subject) = ⊥
IsEventOf Entry (Admits session ordinal work) = ⊥
IsEventOf Entry (Starts n) = Entry n
IsEventOf Entry (Ends n) = Entry n
IsEventOf Entry (Loses n) = Entry n

-- it took turns with such entries, and made no other event
abbrev pub AddsTurnsOf : (ℕ → Type 0) → PassView → PassView → Type 0
AddsTurnsOf Entry before after = Adds (λ _. IsEventOf Entry) before after

-- with whatever entries: it has opened no session and admitted no line
abbrev pub AddsTurnsAlone : PassView → PassView → Type 0
AddsTurnsAlone before after = AddsTurnsOf (λ n. Unit {0}) before after

abbrev pub IsNoLine : Event → Type 0
IsNoLine (Opens subject) = Unit {0}
IsNoLine (Admits session ordinal work) = ⊥
IsNoLine (Starts n) = Unit {0}
IsNoLine (Ends n) = Unit {0}
IsNoLine (Loses n) = Unit {0}

-- it has admitted no line
abbrev pub AdmitsNoLine : PassView → PassView → Type 0
AdmitsNoLine before after = Adds (λ _. IsNoLine) before after
