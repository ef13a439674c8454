-- The seats of a thread's connections, and what callers see of them.
use Rattle.std.specs.Prelude.{◌≡◌, ◌≢◌, ◌<◌, ◌≤◌, ◌-◌, ◌++◌, ◌∷◌, [], ℕ, Bool, true, false, List}
use Rattle.std.specs.Prelude.{Option, Some, None, get_or, length, map}
use Rattle.std.specs.List.{All, remove}
use Rattle.bl_gate.specs.Gates.{PassView}
use Rattle.bl_crowd.specs.Steps.{greeted_as}
use Rattle.bl_crowd.specs.declared.member.Member.{Member}
use Rattle.bl_rounds.specs.declared.rounds.Greeting.{Greeting}
use Rattle.bl_rounds.specs.declared.seat.Seat.{Seat}
use Rattle.bl_rounds.specs.declared.seat.Stage.{Stage}
use Rattle.bl_rounds.specs.declared.seat.Stage.TheVariants.{Goes, Asks, Waits, Sleeps, Over, Failed}

-- What callers see of a thread's connections: the pass that the thread was given; the seat of each, in the order of
-- their numbers; the session of each with its subject, once that is open; and what time it is.
pub record Table : Type 0 where
  pub first : PassView
  pub seats : List Seat
  pub sessions : List (Option (ℕ × ℕ))
  pub time : ℕ

-- the session of each member with its subject, once that is open
abbrev pub sessions_of : {S : Type 0} → List (Member S) → List (Option (ℕ × ℕ))
sessions_of {S} members = map (λ (member : Member S). greeted_as member) members

-- the numbers of the connections, in their order
abbrev pub numbers : List Seat → List ℕ
numbers seats = map (λ (seat : Seat). seat.number) seats

-- the number of each connection, and whether its session was told of
abbrev pub who : List Seat → List (ℕ × Bool)
who seats = map (λ (seat : Seat). (seat.number, seat.greeted)) seats

-- its session is over, or it has failed
abbrev pub leaves : Stage → Bool
leaves Goes = false
leaves Asks = false
leaves Waits = false
leaves Sleeps = false
leaves Over = true
leaves Failed = true

-- nothing goes on before its stream is ready, or an entry has ended
abbrev pub waits : Stage → Bool
waits Goes = false
waits Asks = false
waits Waits = true
waits Sleeps = true
waits Over = false
waits Failed = false

-- it waits for its stream, by which nothing was sent or taken for so long
pub record IsSilent (time most : ℕ) (seat : Seat) : Type 0 where
  pub sleeps : seat.stage ≡ Sleeps
  pub moved : ℕ
  pub moved_is : seat.moved ≡ Some moved
  pub long : most ≤ time - moved

-- it may go on at once only if it has just gone on
abbrev pub HasGoneOn : ℕ → Seat → Type 0
HasGoneOn now seat = seat.stage ≡ Goes → seat.moved ≡ Some now

-- so do the first ones, and the first ones ask nothing
abbrev pub HaveGoneOn : ℕ → ℕ → List Seat → Type 0
HaveGoneOn now count seats = (i : ℕ) (d : Seat) → i < count → HasGoneOn now (get_or seats i d)

abbrev pub AskNothing : ℕ → List Seat → Type 0
AskNothing count seats = (i : ℕ) (d : Seat) → i < count → (get_or seats i d).stage ≢ Asks

-- of the first ones each whose session is open was told of
abbrev pub AreTold : ℕ → List Seat → List (Option (ℕ × ℕ)) → Type 0
AreTold count seats sessions =
    (i : ℕ) (d : Seat) (e : Option (ℕ × ℕ)) → i < count → (get_or seats i d).greeted ≡ false
    → get_or sessions i e ≡ None

-- the same connections, of which the same were told
pub record IsSame (old new : Table) : Type 0 where
  pub first : new.first ≡ old.first
  pub time : new.time ≡ old.time
  pub who_are : who new.seats ≡ who old.seats

-- one came, with this number: it may go on, and was not told of
pub record HasJoined (number : ℕ) (old new : Table) : Type 0 where
  pub first : new.first ≡ old.first
  pub time : new.time ≡ old.time
  pub seat : Seat
  pub seats : new.seats ≡ old.seats ++ seat ∷ []
  pub seat_is : seat ≡ record { number = number; stage = Goes; moved = None; greeted = false }
  pub session : Option (ℕ × ℕ)
  pub sessions : new.sessions ≡ old.sessions ++ session ∷ []

-- one with this number was taken out, whose seat was so
pub record IsOneOut (WasSo : Seat → Type 0) (number : ℕ) (old new : Table) : Type 0 where
  pub first : new.first ≡ old.first
  pub time : new.time ≡ old.time
  pub i : ℕ
  pub within : i < length old.seats
  pub number_is : (d : Seat) → number ≡ (get_or old.seats i d).number
  pub was_so : (d : Seat) → WasSo (get_or old.seats i d)
  pub seats : new.seats ≡ remove old.seats i
  pub sessions : new.sessions ≡ remove old.sessions i

-- the greeting is of this connection, whose session is open, with that and its subject; and it was not told of
pub record IsUntold (greeting : Greeting) (seats : List Seat) (sessions : List (Option (ℕ × ℕ))) (i : ℕ)
    : Type 0 where
  pub within : i < length seats
  pub number_is : (d : Seat) → greeting.number ≡ (get_or seats i d).number
  pub session_is : (e : Option (ℕ × ℕ)) → get_or sessions i e ≡ Some (greeting.session, greeting.subject)
  pub untold : (d : Seat) → (get_or seats i d).greeted ≡ false

-- the greeting is of one that was not told of, and now is
pub record IsGreeted (greeting : Greeting) (old new : Table) : Type 0 where
  pub first : new.first ≡ old.first
  pub time : new.time ≡ old.time
  pub i : ℕ
  pub was : IsUntold greeting old.seats old.sessions i
  pub told : (d : Seat) → get_or new.seats i d ≡ record (get_or old.seats i d) { greeted = true }
  pub others : (j : ℕ) (d : Seat) → j ≢ i → get_or new.seats j d ≡ get_or old.seats j d
  pub numbers_are : numbers new.seats ≡ numbers old.seats
  pub sessions : new.sessions ≡ old.sessions
