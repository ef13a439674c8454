use Rattle.std.proofs.Common.{◌≡◌, length}
use Rattle.bl_level.specs.Token.{tok}
use Rattle.bl_due.specs.Items.{items_of, step}
use Rattle.bl_due.proofs.left.Left.next.Given as goal

-- the items that were left out take nothing of the token
abbrev pub invariant-loop-item : goal.invariant-loop-item
invariant-loop-item l = step (items_of l.left) (tok l.token) ≡ step (items_of l.self) (tok l.token)

abbrev pub decreases-loop-item : goal.decreases-loop-item
decreases-loop-item l = length (items_of l.left)
