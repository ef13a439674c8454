use Rattle.std.proofs.Common.{◌≡◌, ◌+◌, ◌-◌, ◌≤◌, List, length}
use Rattle.bl_order.specs.Machine.{Event}
use Rattle.bl_explaining_event.specs.Courses.{HasGone}
use Rattle.bl_explaining_event.proofs.course.follow_events.Given as goal

-- so many events were followed, and their rules were noted
abbrev pub invariant-lines : goal.invariant-lines
invariant-lines l =
    record {
      gone : (events : List Event) × HasGone l.fn.follower l.follower l.rules.items events × (l.count ≡ length events);
      within : l.count + length l.follower.rest ≤ length l.trail;
      most : l.count ≤ l.events;
    }

abbrev pub decreases-lines : goal.decreases-lines
decreases-lines l = l.events - l.count
