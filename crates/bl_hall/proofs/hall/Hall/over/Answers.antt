use Rattle.std.proofs.Common.{◌+◌, ◌*◌, ◌≤◌, subst}
use Rattle.std.specs.Vec.{vec_capacity}
use Rattle.bl_order.specs.Machine.{most_sessions}
use Rattle.bl_hall.proofs.Beginning.{begun-kept}
use Rattle.bl_hall.proofs.hall.Hall.over.Goals as goal

pub invariant_of-result : goal.invariant_of-result
invariant_of-result c =
    begun-kept
    (record {
      alloc = c.args.alloc;
      core = c.args.core;
      events = c.in-Ok.rooms.events;
      links = c.in-Ok.rooms.links;
      tallies = c.in-Ok.rooms.tallies;
    })
    c.args.core.setup c.args.core.limit
    (record {
      core = c.requires.empty;
      events = c.in-Ok.ensures.events.0;
      links = c.in-Ok.ensures.links.0;
      tallies = c.in-Ok.ensures.tallies.0;
      some = c.requires.some;
      small = c.requires.most;
      events_room = subst (λ limit. most_sessions + 3 * limit ≤ vec_capacity c.in-Ok.rooms.events) c.limit.ensures c.in-Ok.ensures.events.1;
      links_room = subst (λ limit. limit ≤ vec_capacity c.in-Ok.rooms.links) c.limit.ensures c.in-Ok.ensures.links.1;
      tallies_room = c.in-Ok.ensures.tallies.1;
    })
