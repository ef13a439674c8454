use Rattle.std.proofs.Common.{◌≡◌, length}
use Rattle.bl_entrance.specs.Firsts.{first_said}
use Rattle.bl_entrance.proofs.first.first_line.Given as goal

abbrev pub invariant-loop-rest : goal.invariant-loop-rest
invariant-loop-rest l = first_said l.fn.text ≡ first_said l.rest

abbrev pub decreases-loop-rest : goal.decreases-loop-rest
decreases-loop-rest l = length l.rest
