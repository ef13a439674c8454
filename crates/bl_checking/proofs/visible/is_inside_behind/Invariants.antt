use Rattle.std.proofs.Common.{◌≡◌, length}
use Rattle.bl_checking.specs.Visible.{is_inside_behind}
use Rattle.bl_checking.proofs.visible.is_inside_behind.Given as goal

-- the rest decides
abbrev pub invariant-loop-rest : goal.invariant-loop-rest
invariant-loop-rest l = is_inside_behind l.inside l.rest ≡ is_inside_behind l.fn.is_inside l.bytes

abbrev pub decreases-loop-rest : goal.decreases-loop-rest
decreases-loop-rest l = length l.rest
