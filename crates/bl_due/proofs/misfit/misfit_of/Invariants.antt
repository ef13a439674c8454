use Rattle.std.proofs.Common.{length}
use Rattle.bl_due.specs.Points.{point}
use Rattle.bl_due.proofs.Reaching.{Reached}
use Rattle.bl_due.proofs.misfit.misfit_of.Given as goal

-- the tokens so far lead to the point
abbrev pub invariant-loop-point : goal.invariant-loop-point
invariant-loop-point l = Reached l.fn.section l.line l.rest (point l.point)

abbrev pub decreases-loop-point : goal.decreases-loop-point
decreases-loop-point l = length l.rest
