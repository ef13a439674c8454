-- How the code keeps an entry.
use Rattle.std.specs.Prelude.{List, map, take, drop}
use Rattle.bl_queue.specs.declared.claim.Claim.{Claim}
use Rattle.bl_queue.specs.declared.cown.Held.{Held}
use Rattle.bl_queue.specs.declared.entry.Seat.{Seat}
use Rattle.bl_queue.specs.Entries.{Entry}

-- a claim, without the number of its entry
abbrev pub given : Held → Claim
given h = record { cown = h.cown; shared = h.shared }

-- the entry that has its claims among all of them
abbrev pub entry_of : List Held → Seat → Entry
entry_of claims s = record { claims = map given (take s.count (drop s.place claims)); stand = s.stand }
