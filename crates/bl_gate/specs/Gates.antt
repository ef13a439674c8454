-- What callers see of a gate and of the passes that it gives. All of it is our own choice.
use Rattle.std.specs.Prelude.{◌≡◌, ◌≢◌, ℕ, ◌≤◌, IsTrue, List, [], ◌∷◌, ◌++◌, length, slice_get, Some}
use Rattle.atomic_table.specs.Seated.{TableId}
use Rattle.bl_policy.specs.Policy.{no_policy}
use Rattle.bl_setup.specs.declared.version.Version.TheVariants.{Two}
use Rattle.bl_order.specs.Machine.{State, Event, Starts, runs}
use Rattle.bl_eval.specs.Loan.{Loan}
use Rattle.bl_core.specs.Answers.{loan_at}
use Rattle.bl_core.specs.declared.machine.Started.{Started}
use Rattle.bl_core.specs.declared.machine.Started.TheVariants.{Denied, RuleDone, Run}
use Rattle.bl_hall.specs.Chronicle.{Chronicle, state_now}
use Rattle.bl_gate.specs.Counts.{StartsWith, gained, times}

-- a gate: its table's own name, and the hall that it was given
pub record GateId : Type 0 where
  pub table : TableId
  pub base : Chronicle

-- A pass: the gate that made it, the trail that the pass has seen, the positions in it of its own calls, and its parts
-- of the right to close the gate, which are 64 in all.
pub record PassView : Type 0 where
  pub gate : GateId
  pub seen : List Event
  pub own : List ℕ
  pub parts : ℕ

-- a hall of nobody, in which nothing has happened
abbrev pub no_hall : Chronicle
no_hall = record {
  setup = record {
    names = record { scheme = record { ranks = []; categories = [] }; subjects = []; documents = [] };
    policy = no_policy;
    contents = [];
    version = Two;
  };
  limit = 0;
  trail = [];
}

-- a pass that was taken from where it was leaves this there, which is of no gate
abbrev pub no_pass : PassView
no_pass = record {
  gate = record { table = record { words = 0; slots = 0; views_name = 0; atom = 0; block = 0; offset = 0; slot_names = [] }; base = no_hall };
  seen = [];
  own = [];
  parts = 0;
}

-- a hall with another trail
abbrev pub hall_with : Chronicle → List Event → Chronicle
hall_with base trail = record { setup = base.setup; limit = base.limit; trail = trail }

-- the hall as a pass has seen it, and its state there
abbrev pub hall_seen : PassView → Chronicle
hall_seen pass = hall_with pass.gate.base pass.seen

abbrev pub state_seen : PassView → State
state_seen pass = state_now (hall_seen pass)

-- the same pass, later: of the same gate, with the same parts, and it has seen all that it had seen
pub record Follows (before after : PassView) : Type 0 where
  pub gate : after.gate ≡ before.gate
  pub parts : after.parts ≡ before.parts
  pub seen : StartsWith after.seen before.seen

-- every position that the pass has seen since then is its own: nobody else has made an event
abbrev pub OwnsAllSince : PassView → PassView → Type 0
OwnsAllSince before after = after.own ≡ before.own ++ gained (length before.seen) (length after.seen)

-- A call that is an event. The trail begins with all that the pass had seen and ends with the event, where the pass has
-- gained the position; and what is answered holds in the state that the trail led to before it.
pub record Calls (before : PassView) (event : Event) (Answered : State → Type 0) (after : PassView) : Type 0 where
  pub trail : List Event
  pub from : StartsWith trail before.seen
  pub seen : after.seen ≡ trail ++ event ∷ []
  pub own : after.own ≡ before.own ++ length trail ∷ []
  pub answered : Answered (state_now (hall_with before.gate.base trail))

-- what a start lets run is this entry
abbrev pub IsOf : ℕ → Started → Type 0
IsOf n (Denied denial) = Unit {0}
IsOf n RuleDone = Unit {0}
IsOf n (Run lent) = lent.entry ≡ n

-- An entry is in a pass's hand: the pass owns a position at which it has seen the entry start, and the entry runs in
-- the state that the pass has seen.
pub record InHand (pass : PassView) (n : ℕ) : Type 0 where
  pub position : ℕ
  pub own : 1 ≤ times position pass.own
  pub start : slice_get pass.seen position ≡ Some (Starts n)
  pub running : IsTrue (runs (state_seen pass) n)

-- a loan's entry is in a pass's hand, and the loan is what its place is lent in the state that the pass has seen
pub record HasLoanInHand (pass : PassView) (loan : Loan) : Type 0 where
  pub entry : InHand pass loan.entry
  pub lent : loan ≡ loan_at (state_seen pass) loan.entry

-- what a pass had in hand it has still, with its loan
abbrev pub KeepsInHand : PassView → PassView → Type 0
KeepsInHand before after = (loan : Loan) → HasLoanInHand before loan → HasLoanInHand after loan

-- the same but for one entry
abbrev pub KeepsInHandBut : ℕ → PassView → PassView → Type 0
KeepsInHandBut n before after = (loan : Loan) → loan.entry ≢ n → HasLoanInHand before loan → HasLoanInHand after loan

-- what a start lets run is in the pass's hand
abbrev pub GivesInHand : PassView → Started → Type 0
GivesInHand pass (Denied denial) = Unit {0}
GivesInHand pass RuleDone = Unit {0}
GivesInHand pass (Run lent) = HasLoanInHand pass lent
