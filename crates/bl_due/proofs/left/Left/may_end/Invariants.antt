use Rattle.std.proofs.Common.{◌≡◌, length}
use Rattle.bl_due.specs.Items.{items_of, may_end}
use Rattle.bl_due.proofs.left.Left.may_end.Given as goal

-- the items so far may be left out
abbrev pub invariant-loop-item : goal.invariant-loop-item
invariant-loop-item l = may_end (items_of l.left) ≡ may_end (items_of l.self)

abbrev pub decreases-loop-item : goal.decreases-loop-item
decreases-loop-item l = length (items_of l.left)
