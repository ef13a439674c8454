use Rattle.std.proofs.Common.{◌≡◌, ◌+◌, ◌≤◌, List, length}
use Rattle.std.specs.Prelude.{All}
use Rattle.bl_order.specs.Machine.{State, Event, state_after}
use Rattle.bl_trail.specs.Follow.{Followed}
use Rattle.bl_replay.specs.Keeps.{Replays}
use Rattle.bl_explain.specs.Run.{rules_of}
use Rattle.bl_explain.specs.Since.{KnowsApplied}
use Rattle.bl_ruled.proofs.Fewer.{IsUpTo}
use Rattle.bl_ruled.proofs.follow.follow_to.Given as goal

-- from each state in which the replayer may have stood, the text so far is that of events that lead to one in which it stands now, so
-- many were counted, no more than are asked for, and their rules were noted
abbrev pub invariant-lines : goal.invariant-lines
invariant-lines l =
    record {
      goes : (x : State) → Replays l.fn.replayer x l.text
          → (events : List Event) × Followed x l.text l.rest events × Replays l.replayer (state_after x events) l.rest × (l.count ≡ length events)
          × (l.rules.items ≡ rules_of 0 x events) × All (KnowsApplied x.setup.policy) l.rules.items;
      within : l.count + length l.rest ≤ length l.text;
      up_to : IsUpTo l.most l.count;
    }

abbrev pub decreases-lines : goal.decreases-lines
decreases-lines l = length l.rest
