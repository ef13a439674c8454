use Rattle.std.proofs.Common.{◌≡◌, ◌++◌, length}
use Rattle.bl_checking.specs.Visible.{bytes}
use Rattle.bl_checking.proofs.visible.put_visible.Given as goal

-- what is visible of the rest is still to be put
abbrev pub invariant-loop-rest : goal.invariant-loop-rest
invariant-loop-rest l = l.text.items ++ bytes l.inside l.rest ≡ l.fn.text.items ++ bytes l.fn.is_inside l.bytes

abbrev pub decreases-loop-rest : goal.decreases-loop-rest
decreases-loop-rest l = length l.rest
