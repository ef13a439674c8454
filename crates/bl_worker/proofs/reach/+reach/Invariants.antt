use Rattle.std.proofs.Common.{◌+◌, ◌*◌, [], ◌∷◌}
use Rattle.bl_work.specs.Body.{statements_of, depth}
use Rattle.bl_worker.proofs.reach.+reach.Given as goal

-- how many `if` stand in one another, where statements are more than one of them, and that more than its branches
abbrev pub decreases-count_all : goal.decreases-count_all
decreases-count_all l = 2 * depth (statements_of l.statements.now) + 1

abbrev pub decreases-count_one : goal.decreases-count_one
decreases-count_one l = 2 * depth (statements_of (l.statement.now ∷ []))
