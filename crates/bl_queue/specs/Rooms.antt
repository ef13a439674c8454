-- What the code's queues keep.
use Rattle.std.specs.Prelude.{◌≡◌, ℕ, ◌/◌, ◌<◌, List, length}
use Rattle.bl_queue.specs.declared.entry.Stand.{Stand}
use Rattle.bl_queue.specs.declared.entry.Stand.TheVariants.{Waiting, Started, Ended}
use Rattle.bl_queue.specs.Entries.{Entry, entry_at}
use Rattle.bl_queue.specs.Numbers.{mark}
use Rattle.bl_queue.specs.Queues.{Queue}
use Rattle.bl_queue.specs.Queued.{IsKept}
use Rattle.bl_queue.specs.declared.queues.Queues.TheInside.{Inside}

abbrev pub queue_of : Inside → Queue
queue_of q = record { cowns = q.cowns; limit = q.limit; entries = q.roster.entries }

-- the mark of an entry that stands there
abbrev pub mark_of : Stand → ℕ
mark_of Waiting = 0
mark_of Started = 1
mark_of Ended = 0

-- the members of the set are just the entries that run, and there is room for all that may enter
pub record AreRunning (entries : List Entry) (limit : ℕ) (words : List ℕ) : Type 0 where
  pub room : limit / 64 < length words
  pub each : (n : ℕ) → mark words n ≡ mark_of (entry_at entries n).stand

-- the entries are right, the claims are theirs, and what runs is known
pub record HasRoom (q : Inside) : Type 0 where
  pub kept : IsKept q.cowns q.limit q.roster
  pub running : AreRunning q.roster.entries q.limit q.running
