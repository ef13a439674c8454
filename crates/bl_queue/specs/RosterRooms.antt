-- What the code keeps of the entries.
use Rattle.std.specs.Prelude.{◌+◌, ◌≤◌, All, length, map}
use Rattle.std.specs.Vec.{vec_capacity}
use Rattle.bl_queue.specs.Queues.{most_entries}
use Rattle.bl_queue.specs.Queued.{Roster}
use Rattle.bl_queue.specs.Seats.{entry_of}
use Rattle.bl_queue.specs.declared.entry.Seat.{Seat}
use Rattle.bl_queue.specs.declared.roster.Roster.TheInside.{Inside}

abbrev pub roster_of : Inside → Roster
roster_of r = record {
  entries = map (entry_of r.holders.claims) r.seats.items;
  places = map (λ (s : Seat). s.place) r.seats.items;
  holders = r.holders;
  front = r.front;
  limit = r.limit;
}

-- each entry's claims are there, and there is room for all that may enter
pub record HasSeats (r : Inside) : Type 0 where
  pub limit : r.limit ≤ most_entries
  pub seats : r.limit ≤ vec_capacity r.seats
  pub within : All (λ (s : Seat). s.place + s.count ≤ length r.holders.claims) r.seats.items
