-- What the code keeps of the claims.
use Rattle.std.specs.Prelude.{◌*◌, ◌≤◌, length, map}
use Rattle.std.specs.Vec.{vec_capacity}
use Rattle.bl_queue.specs.Claims.{most_claims}
use Rattle.bl_queue.specs.Queues.{most_cowns, most_entries}
use Rattle.bl_queue.specs.Holders.{Holders}
use Rattle.bl_queue.specs.Links.{claim_of, next_of}
use Rattle.bl_queue.specs.declared.link.Link.{Link}
use Rattle.bl_queue.specs.declared.cowns.Cowns.TheInside.{Inside}

abbrev pub holders_of : Inside → Holders
holders_of c = record {
  claims = map claim_of c.links.items;
  over = map (λ (l : Link). l.over) c.links.items;
  next = map next_of c.links.items;
  cowns = c.cowns.items;
  waits = c.waits.items;
  free = c.free.items;
  limit = c.limit;
}

-- a cown's number fits into a link, and there is room for all claims of all entries
pub record HasPlaces (c : Inside) : Type 0 where
  pub cowns : length c.cowns.items ≤ most_cowns
  pub limit : c.limit ≤ most_entries
  pub links : most_claims * c.limit ≤ vec_capacity c.links
  pub waits : c.limit ≤ vec_capacity c.waits
  pub free : c.limit ≤ vec_capacity c.free
