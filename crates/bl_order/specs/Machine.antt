-- The machine: its states, the events that may come next in each, and what they change.
use Rattle.std.specs.Prelude.{ℕ, zero, suc, ◌+◌, ◌<◌, ◌≤◌, ◌^◌, Bool, true, false, ◌&&◌, ◌||◌, not, ◌⊎◌, IsTrue, if◌then◌else◌, nat_lt, List, [], ◌∷◌, ◌++◌, length, map, replicate, sum_by, slice_index_or, slice_set}
use Rattle.bl_policy.specs.declared.access.Access.{Access}
use Rattle.bl_policy.specs.declared.access.Mode.{Mode}
use Rattle.bl_work.specs.Effects.{children}
use Rattle.bl_work.specs.Readable.{IsReadable}
use Rattle.bl_work.specs.declared.work.Work.{Work}
use Rattle.bl_work.specs.declared.work.Work.TheVariants as work
use Rattle.bl_setup.specs.Setup.{Setup}
use Rattle.bl_order.specs.Order.{Entry, Line, Child, Task, accesses_of, conflict}
use Rattle.bl_order.specs.Past.{Past, place, is_done}

-- where a place stands: it has not begun, it runs, it has ended with its answer, or it has ended as lost
pub data Phase : Type 0 where
  Waiting : Phase
  Running : Phase
  Ended : Phase
  Gone : Phase

abbrev pub is_waiting : Phase → Bool
is_waiting Waiting = true
is_waiting Running = false
is_waiting Ended = false
is_waiting Gone = false

abbrev pub is_running : Phase → Bool
is_running Waiting = false
is_running Running = true
is_running Ended = false
is_running Gone = false

-- a lost place has ended too
abbrev pub is_over : Phase → Bool
is_over Waiting = false
is_over Running = false
is_over Ended = true
is_over Gone = true

abbrev pub is_gone : Phase → Bool
is_gone Waiting = false
is_gone Running = false
is_gone Ended = false
is_gone Gone = true

-- a session's subject, and the greatest ordinal that it has given, 0 at first
pub record Session : Type 0 where
  pub subject : ℕ
  pub last : ℕ

-- State: the sessions, the admission order, and where each place of it stands. The setup and the limit on weights never change.
pub record State : Type 0 where
  pub setup : Setup
  pub limit : ℕ
  pub sessions : List Session
  pub order : List Entry
  pub phases : List Phase

-- Event: a session is opened for a subject, a session's line is admitted with its work, a place starts, ends, or is lost
pub data Event : Type 0 where
  Opens : (subject : ℕ) → Event
  Admits : (session ordinal : ℕ) → (work : Work) → Event
  Starts : (n : ℕ) → Event
  Ends : (n : ℕ) → Event
  Loses : (n : ℕ) → Event

abbrev pub phase_at : State → ℕ → Phase
phase_at x n = slice_index_or x.phases n Waiting

abbrev pub is_lost : State → ℕ → Bool
is_lost x n = is_gone (phase_at x n)

abbrev pub has_ended : State → ℕ → Bool
has_ended x n = is_over (phase_at x n)

abbrev pub runs : State → ℕ → Bool
runs x n = is_running (phase_at x n)

-- the record of a place in a state
abbrev pub past_at : State → ℕ → Past
past_at x n = place x.setup (is_lost x) x.order n

-- MayStart (Cheeseman et al. 2023; own choice: sharing): a place waits, and each earlier place that it conflicts with has ended
pub record MayStart (x : State) (n : ℕ) : Type 0 where
  pub there : n < length x.order
  pub waits : IsTrue (is_waiting (phase_at x n))
  pub clear : (m : ℕ) → m < n → IsTrue (conflict (past_at x m).task (past_at x n).task) → IsTrue (has_ended x m)

-- each place below m that the task conflicts with has ended
abbrev pub is_clear : State → Task → ℕ → Bool
is_clear x task zero = true
is_clear x task (suc m) = (not (conflict (past_at x m).task task) || has_ended x m) && is_clear x task m

-- the test of MayStart
abbrev pub may_start : State → ℕ → Bool
may_start x n = nat_lt n (length x.order) && is_waiting (phase_at x n) && is_clear x (past_at x n).task n

-- own choice: a line weighs one for each `when` in it, and a rule weighs one
abbrev pub weight_of : Work → ℕ
weight_of (work.Behaviour script) = length script
weight_of (work.Rule rule) = 1

abbrev pub entry_weight : Entry → ℕ
entry_weight (Line session ordinal subject work) = weight_of work
entry_weight (Child parent which) = 0

abbrev pub no_session : Session
no_session = record { subject = 0; last = 0 }

abbrev pub session_at : State → ℕ → Session
session_at x i = slice_index_or x.sessions i no_session

-- the children of a place from this number on, one for each behaviour
abbrev pub child_entries : ℕ → ℕ → List ℕ → List Entry
child_entries parent which [] = []
child_entries parent which (behaviour ∷ behaviours) = Child parent which ∷ child_entries parent (which + 1) behaviours

-- the children that a place spawned, in order
abbrev pub children_at : State → ℕ → List Entry
children_at x n = child_entries n 1 (children (past_at x n).effects)

-- own choice: so many sessions in one run
abbrev pub most_sessions : ℕ
most_sessions = 1000

-- Step, what an event needs: the work that is admitted is one that some line asks under the setup's names
abbrev pub Needs : State → Event → Type 0
Needs x (Opens subject) = (subject < length x.setup.policy.subjects) × (length x.sessions < most_sessions)
Needs x (Admits session ordinal work) =
    (session < length x.sessions) × IsReadable x.setup.names work × ((session_at x session).last < ordinal) × (ordinal < 2 ^ 32)
    × (sum_by entry_weight x.order + weight_of work ≤ x.limit)
Needs x (Starts n) = MayStart x n
Needs x (Ends n) = IsTrue (runs x n)
Needs x (Loses n) = IsTrue (runs x n) ⊎ MayStart x n

abbrev pub with_phase : State → ℕ → Phase → State
with_phase x n phase = record x { phases = slice_set x.phases n phase }

-- Step, what an event changes. What does not run ends at its start. Own choice: children enter at their parent's end.
abbrev pub change : State → Event → State
change x (Opens subject) = record x { sessions = x.sessions ++ record { subject = subject; last = 0 } ∷ [] }
change x (Admits session ordinal work) =
    record x {
      sessions = slice_set x.sessions session (record (session_at x session) { last = ordinal });
      order = x.order ++ Line session ordinal (session_at x session).subject work ∷ [];
      phases = x.phases ++ Waiting ∷ [];
    }
change x (Starts n) = with_phase x n (if is_done (past_at x n).answer then Running else Ended)
change x (Ends n) =
    let entries = children_at x n in
    record x {
      order = x.order ++ entries;
      phases = slice_set x.phases n Ended ++ replicate (length entries) Waiting;
    }
change x (Loses n) = with_phase x n Gone

-- the state in which nothing has happened yet
abbrev pub start : Setup → ℕ → State
start setup limit = record { setup = setup; limit = limit; sessions = []; order = []; phases = [] }

-- where a list of events leads
abbrev pub state_after : State → List Event → State
state_after x [] = x
state_after x (event ∷ events) = state_after (change x event) events

-- Trail: a list of events, each of which is a step of the state that the ones before it lead to
abbrev pub IsTrail : State → List Event → Type 0
IsTrail x [] = Unit {0}
IsTrail x (event ∷ events) = Needs x event × IsTrail (change x event) events

-- Bell and La Padula 1976, current access: an access that is held, whose it is, of what, and how
pub record Hold : Type 0 where
  pub subject : ℕ
  pub doc : ℕ
  pub mode : Mode

-- the declared accesses of the running places below n, one for each access
abbrev pub held_below : State → ℕ → List Hold
held_below x zero = []
held_below x (suc n) =
    held_below x n
    ++ (if runs x n
    then map (λ (a : Access). record { subject = (past_at x n).subject; doc = a.doc; mode = a.mode }) (accesses_of (past_at x n).task)
    else [])

-- Held: the declared accesses of the running places
abbrev pub held : State → List Hold
held x = held_below x (length x.order)
