use Rattle.std.proofs.Common.{◌≡◌, ◌+◌, ◌*◌, [], ◌∷◌, take}
use Rattle.std.specs.Prelude.{map}
use Rattle.bl_work.specs.Body.{statements_of, depth}
use Rattle.bl_grant.specs.Loaned.{as_lent}
use Rattle.bl_eval.specs.Told.{HasRun}
use Rattle.bl_eval.proofs.told.Told.+run.Given as goal

-- how many `if` stand in one another, where statements are more than one of them, and that more than its branches
abbrev pub decreases-run : goal.decreases-run
decreases-run l = 2 * depth (statements_of l.statements.now) + 1

abbrev pub decreases-step : goal.decreases-step
decreases-step l = 2 * depth (statements_of (l.statement.now ∷ []))

-- the grants are of what was lent, and the statements so far have run
abbrev pub invariant-run-loop-statement : goal.invariant-run-loop-statement
invariant-run-loop-statement l =
    (map as_lent l.grants ≡ map as_lent l.initial.grants)
    × HasRun (statements_of (take l.statement-index l.statements)) l.initial.grants l.initial.self l.grants l.self
