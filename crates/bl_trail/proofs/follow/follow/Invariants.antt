use Rattle.std.proofs.Common.{◌≡◌, ◌+◌, ◌≤◌, List, length}
use Rattle.bl_order.specs.Machine.{State, Event, state_after}
use Rattle.bl_trail.specs.Follow.{Followed}
use Rattle.bl_trail.proofs.follow.follow.Given as goal

-- from each state in which the machine may have stood, the text so far is that of events that lead to one in which it stands now,
-- and so many were counted
abbrev pub invariant-lines : goal.invariant-lines
invariant-lines g l =
    record {
      goes : (x : State) → g.M.Follows.stands l.fn.machine x l.text
          → (events : List Event) × Followed x l.text l.rest events × g.M.Follows.stands l.machine (state_after x events) l.rest × (l.count ≡ length events);
      within : l.count + length l.rest ≤ length l.text;
    }

abbrev pub decreases-lines : goal.decreases-lines
decreases-lines g l = length l.rest
