use Rattle.bl_hall.proofs.Ways.{IsOnTheWay, place_of}
use Rattle.bl_hall.proofs.walk.lines_above.Given as goal

abbrev pub invariant-lines : goal.invariant-lines
invariant-lines l = IsOnTheWay l.core.order l.links l.fn.session l.after l.lines.items l.at

abbrev pub decreases-lines : goal.decreases-lines
decreases-lines l = place_of l.at
