-- How many entries a session waits for, and how many events may have happened.
use Rattle.std.specs.Prelude.{ℕ, zero, suc, ◌+◌, ◌&&◌, not, ◌==◌, if◌then◌else◌, length, sum_by}
use Rattle.bl_order.specs.Labels.{tag}
use Rattle.bl_order.specs.Machine.{State, Phase, Waiting, Running, Ended, Gone, has_ended}

-- how many entries of a session below n have not ended
abbrev pub awaited_below : State → ℕ → ℕ → ℕ
awaited_below x session zero = 0
awaited_below x session (suc n) =
    if ((tag x.order n).session == session) && not (has_ended x n) then suc
    (awaited_below x session n) else awaited_below x session n

abbrev pub awaited : State → ℕ → ℕ
awaited x session = awaited_below x session (length x.order)

-- how many events a place may have had: it entered, it started, and it ended
abbrev pub had_events : Phase → ℕ
had_events Waiting = 1
had_events Running = 2
had_events Ended = 3
had_events Gone = 3

-- how many events may have led to a state
abbrev pub most_events : State → ℕ
most_events x = length x.sessions + sum_by had_events x.phases
