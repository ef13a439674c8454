use Rattle.std.proofs.Common.{◌≡◌, ◌++◌, length}
use Rattle.bl_due.specs.Items.{items_of, due_of}
use Rattle.bl_due.proofs.left.Left.due.Given as goal

-- what is due of the items that are left goes behind what there is
abbrev pub invariant-loop-item : goal.invariant-loop-item
invariant-loop-item l = l.due.items ++ due_of (items_of l.left) ≡ due_of (items_of l.self)

abbrev pub decreases-loop-item : goal.decreases-loop-item
decreases-loop-item l = length (items_of l.left)
