-- How a hall comes nearer to the end of all that was admitted.
use Rattle.std.specs.Prelude.{◌≡◌, ℕ, ◌+◌, ◌-◌, ◌*◌, ◌<◌, false}
use Rattle.bl_hall.specs.Awaited.{most_events}
use Rattle.bl_hall.specs.Chronicle.{Chronicle, state_now}
use Rattle.bl_order.specs.Machine.{State, most_sessions, runs}

-- nothing runs
abbrev pub IsIdle : State → Type 0
IsIdle x = (n : ℕ) → runs x n ≡ false

-- how many events may still happen in a hall
abbrev pub events_left : Chronicle → ℕ
events_left h = (most_sessions + 3 * h.limit) - most_events (state_now h)

-- fewer events may still happen
abbrev pub IsNearer : Chronicle → Chronicle → Type 0
IsNearer before after = events_left after < events_left before
