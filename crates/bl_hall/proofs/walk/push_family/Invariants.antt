use Rattle.bl_hall.specs.Linked.{next_in}
use Rattle.std.proofs.Common.{length}
use Rattle.bl_hall.proofs.Ways.{IsUnderWay, steps_from}
use Rattle.bl_hall.proofs.walk.push_family.Given as goal

abbrev pub invariant-places : goal.invariant-places
invariant-places l = IsUnderWay l.links l.line l.initial.places.items l.places.items l.at

abbrev pub decreases-places : goal.decreases-places
decreases-places l = steps_from (next_in l.links) (length l.links) l.at
