use Rattle.std.proofs.Common.{◌≡◌, ◌+◌, ◌≤◌, List, length}
use Rattle.bl_order.specs.Machine.{State, Event, state_after}
use Rattle.bl_trail.specs.Follow.{Followed}
use Rattle.bl_replay.specs.Keeps.{Replays}
use Rattle.bl_left.proofs.follow.follow_all.Given as goal

-- from each state in which the replayer may have stood, the text so far is that of events that lead to one in which it stands now, and
-- so many were counted
abbrev pub invariant-lines : goal.invariant-lines
invariant-lines l =
    record {
      goes : (x : State) → Replays l.fn.replayer x l.text
          → (events : List Event) × Followed x l.text l.rest events × Replays l.replayer (state_after x events) l.rest × (l.count ≡ length events);
      within : l.count + length l.rest ≤ length l.text;
    }

abbrev pub decreases-lines : goal.decreases-lines
decreases-lines l = length l.rest
