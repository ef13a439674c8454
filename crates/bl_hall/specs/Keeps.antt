-- What a hall keeps.
use Rattle.std.specs.Prelude.{◌≡◌, ℕ, ◌+◌, ◌*◌, ◌<◌, ◌≤◌, List, length, Some, slice_get}
use Rattle.std.specs.Vec.{vec_capacity}
use Rattle.bl_work.specs.declared.work.Work.{Work}
use Rattle.bl_order.specs.Labels.{tag}
use Rattle.bl_order.specs.Order.{Entry, Line}
use Rattle.bl_order.specs.Machine.{State, most_sessions}
use Rattle.bl_hall.specs.declared.link.Link.{Link}
use Rattle.bl_hall.specs.declared.link.Tally.{Tally}
use Rattle.bl_hall.specs.declared.hall.Hall.TheInside.{Inside}
use Rattle.bl_hall.specs.Chronicle.{HasTrail, state_now}
use Rattle.bl_hall.specs.Recalled.{chronicle_of, works_of, lines_in}
use Rattle.bl_hall.specs.Awaited.{awaited, most_events}
use Rattle.bl_hall.specs.Linked.{family, lines_below, link_at, tally_at, next_in, earlier_in, Leads}

-- the links of the places of an order
pub record AreLinks (order : List Entry) (links : List Link) : Type 0 where
  pub as_many : length links ≡ length order
  pub session : (n : ℕ) → n < length order → (link_at links n).session ≡ (tag order n).session
  pub families : (n session ordinal subject : ℕ) (work : Work)
      → slice_get order n ≡ Some (Line session ordinal subject work)
      → Leads (next_in links) (Some n) (family order session ordinal)

-- of each session of a state how many entries it waits for, and its last line
pub record AreTallies (x : State) (links : List Link) (tallies : List Tally) : Type 0 where
  pub as_many : length tallies ≡ length x.sessions
  pub awaited : (session : ℕ) → session < length x.sessions → (tally_at tallies session).awaited ≡ awaited x session
  pub lines : (session : ℕ) → session < length x.sessions
      → Leads (earlier_in links) (tally_at tallies session).line (lines_below x.order session (length x.order))

-- The core is where the trail leads; the links and the tallies are those of its state; and there is room for all that
-- may come.
pub record Keeps (h : Inside) : Type 0 where
  pub trail : HasTrail (chronicle_of h)
  pub leads : h.core ≡ state_now (chronicle_of h)
  pub lines : lines_in h.events.items ≡ length (works_of h.core.order)
  pub links : AreLinks h.core.order h.links.items
  pub tallies : AreTallies h.core h.links.items h.tallies.items
  pub some : 1 ≤ h.core.limit
  pub limited : h.core.limit ≤ 100000
  pub opened : length h.core.sessions ≤ most_sessions
  pub happened : length h.events.items ≤ most_events h.core
  pub events_room : most_sessions + 3 * h.core.limit ≤ vec_capacity h.events
  pub links_room : h.core.limit ≤ vec_capacity h.links
  pub tallies_room : most_sessions ≤ vec_capacity h.tallies
