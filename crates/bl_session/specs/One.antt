-- One: the trail of one session and one worker, by what becomes of each place.
use Rattle.std.specs.Prelude.{ℕ, zero, suc, ◌+◌, Bool, if◌then◌else◌, nat_lt, nat_le}
use Rattle.std.specs.Prelude.{List, [], ◌∷◌, ◌++◌, length, sum_by}
use Rattle.bl_work.specs.declared.work.Work.{Work}
use Rattle.bl_setup.specs.Setup.{Setup}
use Rattle.bl_order.specs.Machine.{State, Event, runs, has_ended, change, start, state_after, weight_of, entry_weight}
use Rattle.bl_order.specs.Machine as machine
use Rattle.bl_hall.specs.Chronicle.{Chronicle}
use Rattle.bl_wire.specs.declared.turn.Turn.{Turn}
use Rattle.bl_engine.specs.declared.request.Request.{Request}
use Rattle.bl_engine.specs.declared.request.Request.TheVariants.{Opens, Admits, Settles}
use Rattle.bl_engine.specs.Requests.{told_by}

-- what becomes of a place: it is not lost; it is lost since memory ran out as it started; or as it ran
pub data Fate : Type 0 where
  Kept : Fate
  Starved : Fate
  Unrun : Fate

-- a place starts, and ends if it runs
abbrev pub started_then : State → ℕ → Event → List Event
started_then x n ending =
    if runs (change x (machine.Starts n)) n then machine.Starts n ∷ ending ∷ [] else machine.Starts n ∷ []

-- the events of a place that is to start: what does not run ends at its start, and so is never lost while it runs
abbrev pub events_by : Fate → State → ℕ → List Event
events_by Kept x n = started_then x n (machine.Ends n)
events_by Starved x n = machine.Loses n ∷ []
events_by Unrun x n = started_then x n (machine.Loses n)

-- the events of a place, of which there are none where it has ended
abbrev pub place_events : Fate → State → ℕ → List Event
place_events fate x n = if has_ended x n then [] else events_by fate x n

-- the places from n on, by rising place, and so many at most
abbrev pub run_from : (ℕ → Fate) → ℕ → State → ℕ → List Event
run_from fate zero x n = []
run_from fate (suc most) x n =
    if nat_lt n (length x.order)
    then place_events (fate n) x n ++ run_from fate most (state_after x (place_events (fate n) x n)) (suc n)
    else []

-- each unended place has its events; there are no more of them than the limit
abbrev pub settling : (ℕ → Fate) → State → List Event
settling fate x = run_from fate x.limit x 0

-- there is room for the work
abbrev pub fits : State → Work → Bool
fits x work = nat_le (sum_by entry_weight x.order + weight_of work) x.limit

-- the events that what is told leads to, of the session of this number
abbrev pub events_of : ℕ → (ℕ → Fate) → State → List Request → List Event
events_of i fate x [] = []
events_of i fate x (Opens subject ∷ told) =
    machine.Opens subject ∷ events_of i fate (change x (machine.Opens subject)) told
events_of i fate x (Admits ordinal work ∷ told) =
    if fits x work
    then machine.Admits i ordinal work ∷ events_of i fate (change x (machine.Admits i ordinal work)) told
    else events_of i fate x told
events_of i fate x (Settles ∷ told) =
    settling fate x ++ events_of i fate (state_after x (settling fate x)) told

-- the number of the session that is opened next: how many were opened before
abbrev pub next_session : State → ℕ
next_session x = length x.sessions

-- The events of one session and one worker that come after a state. Where nothing opens a session there are none;
-- otherwise it is opened, each line that fits is admitted, in order, and at the end of each block the unended entries
-- start and end by rising place, or are lost.
abbrev pub one_after : State → (ℕ → Fate) → List Turn → List Event
one_after x fate turns = events_of (next_session x) fate x (told_by turns)

-- a hall in which nothing has happened
abbrev pub new_hall : Setup → ℕ → Chronicle
new_hall setup limit = record { setup = setup; limit = limit; trail = [] }

-- the trail where nothing has happened before
abbrev pub one : Setup → ℕ → (ℕ → Fate) → List Turn → List Event
one setup limit fate turns = one_after (start setup limit) fate turns

-- where this trail leads
abbrev pub one_state : Setup → ℕ → (ℕ → Fate) → List Turn → State
one_state setup limit fate turns = state_after (start setup limit) (one setup limit fate turns)
