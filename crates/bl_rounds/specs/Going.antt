-- How a thread goes on with its connections.
use Rattle.std.specs.Prelude.{◌≡◌, ◌≢◌, ◌<◌, ◌⊎◌, ℕ, true, List, [], Option, Some, None, get_or, length, vec_len}
use Rattle.std.specs.List.{remove}
use Rattle.bl_gate.specs.Gates.{PassView}
use Rattle.bl_worker.specs.Batches.{AllRan, HasRoom, IsBatch, IsIdle, loans_in}
use Rattle.bl_wire.specs.declared.fault.SessionFault.{SessionFault}
use Rattle.bl_connection.specs.Connections.{state_of}
use Rattle.bl_connection.specs.declared.connection.State.TheVariants as states
use Rattle.bl_crowd.specs.Crowds.{IsCrowd}
use Rattle.bl_crowd.specs.declared.crowd.Crowd.{Crowd}
use Rattle.bl_crowd.specs.declared.member.Member.{Member}
use Rattle.bl_rounds.specs.Seats.{who}
use Rattle.bl_rounds.specs.declared.rounds.Hand.{Hand}
use Rattle.bl_rounds.specs.declared.seat.Seat.{Seat}
use Rattle.bl_rounds.specs.declared.seat.Stage.{Stage}
use Rattle.bl_rounds.specs.declared.seat.Stage.TheVariants.{Goes, Asks, Waits, Sleeps, Over, Failed}

-- Between two turns at the gate: what the thread has in hand was run, and all else that its pass has started since it
-- was given has ended.
pub record HasRun (first pass : PassView) (hand : Hand) : Type 0 where
  pub batch : IsBatch first pass (loans_in hand.batch)
  pub ran : AllRan hand.batch
  pub room : HasRoom hand.batch

-- nothing is in hand
abbrev pub IsAtRest : (first pass : PassView) → Option Hand → Type 0
IsAtRest first pass None = IsBatch first pass []
IsAtRest first pass (Some hand) = HasRun first pass hand × IsIdle hand.batch

-- there are connections only where there is something to go on with
abbrev pub IsOpen : Option Hand → List Seat → Type 0
IsOpen None seats = seats ≡ []
IsOpen (Some hand) seats = Unit {0}

-- what is in hand has this time
abbrev pub HasTime : ℕ → Option Hand → Type 0
HasTime time None = Unit {0}
HasTime time (Some hand) = hand.marks.time ≡ time

-- what is known of a member by its seat, where it is to leave: its session is over, or it has failed, or its line will
-- never fit in the trail
abbrev pub StandsAt : {S : Type 0} → Stage → Member S → Type 0
StandsAt Goes member = Unit {0}
StandsAt Asks member = Unit {0}
StandsAt Waits member = Unit {0}
StandsAt Sleeps member = Unit {0}
StandsAt Over member = (state_of member.connection ≡ states.Over) × (member.fault ≡ None)
StandsAt Failed member = ((fault : SessionFault) × (member.fault ≡ Some fault)) ⊎ (member.full ≡ true)

-- it is so of the first ones
abbrev pub StandSo : {S : Type 0} → ℕ → List Seat → List (Member S) → Type 0
StandSo {S} count seats members =
    (i : ℕ) (d : Seat) (e : Member S) → i < count → StandsAt (get_or seats i d).stage (get_or members i e)

-- each member of the crowd has a seat
pub record HaveSeats {S : Type 0} (remaining contents : S → Option (List ℕ)) (crowd : Crowd S)
    (seats : List Seat) : Type 0 where
  pub crowd_is : IsCrowd remaining contents crowd
  pub seated : length seats ≡ vec_len crowd.members
  pub stand : StandSo (length seats) seats crowd.members.items

-- and between two rounds nothing is in hand
pub record AreSeated {S : Type 0} (remaining contents : S → Option (List ℕ)) (crowd : Crowd S)
    (seats : List Seat) (hand : Option Hand) : Type 0 where
  pub have : HaveSeats remaining contents crowd seats
  pub rest : IsAtRest crowd.first.value crowd.pass hand
  pub opened : IsOpen hand seats

-- a member has gone on a step, and no other one
pub record StepsAt {S : Type 0} (remaining contents : S → Option (List ℕ)) (old new : Crowd S) (i : ℕ) : Type 0 where
  pub crowd_is : IsCrowd remaining contents new
  pub len : vec_len new.members ≡ vec_len old.members
  pub others : (j : ℕ) (e : Member S) → j ≢ i → get_or new.members.items j e ≡ get_or old.members.items j e
  pub first : new.first ≡ old.first
  pub gate : new.gate ≡ old.gate
  pub pass : new.pass ≡ old.pass

-- a member was taken out, and no other one
pub record IsWithout {S : Type 0} (remaining contents : S → Option (List ℕ)) (old new : Crowd S) (i : ℕ) : Type 0 where
  pub crowd_is : IsCrowd remaining contents new
  pub members : new.members.items ≡ remove old.members.items i
  pub first : new.first ≡ old.first
  pub gate : new.gate ≡ old.gate
  pub pass : new.pass ≡ old.pass

-- it is the same crowd, of the same pass, with the same connections
pub record GoesOn {S : Type 0} (remaining contents : S → Option (List ℕ)) (old new : Crowd S)
    (before after : List Seat) : Type 0 where
  pub crowd_is : IsCrowd remaining contents new
  pub seated : length after ≡ vec_len new.members
  pub first : new.first ≡ old.first
  pub gate : new.gate ≡ old.gate
  pub pass : new.pass ≡ old.pass
  pub same : who after ≡ who before

-- so it is, where one of the connections has gone on and no other one
pub record GoesOnAt {S : Type 0} (remaining contents : S → Option (List ℕ)) (old new : Crowd S)
    (before after : List Seat) (i : ℕ) : Type 0 where
  pub goes : GoesOn remaining contents old new before after
  pub len : length after ≡ length before
  pub seats : (j : ℕ) (d : Seat) → j ≢ i → get_or after j d ≡ get_or before j d
  pub members : (j : ℕ) (e : Member S) → j ≢ i → get_or new.members.items j e ≡ get_or old.members.items j e
  pub stands : (d : Seat) (e : Member S) → StandsAt (get_or after i d).stage (get_or new.members.items i e)

-- it is the same crowd after turns at the gate, with the same connections
pub record TurnsOn {S : Type 0} (remaining contents : S → Option (List ℕ)) (old new : Crowd S)
    (before after : List Seat) (hand : Hand) : Type 0 where
  pub crowd_is : IsCrowd remaining contents new
  pub seated : length after ≡ vec_len new.members
  pub first : new.first ≡ old.first
  pub gate : new.gate ≡ old.gate
  pub same : who after ≡ who before
  pub run : HasRun old.first.value new.pass hand
