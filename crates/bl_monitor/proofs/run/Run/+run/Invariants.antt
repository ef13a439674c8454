use Rattle.std.proofs.Common.{◌+◌, ◌*◌, ◌∷◌, [], take}
use Rattle.bl_work.specs.Body.{statements_of, depth}
use Rattle.bl_monitor.specs.Running.{GoesOn, LeadsBack}
use Rattle.bl_monitor.proofs.run.Run.+run.Given as goal

abbrev pub decreases-run : goal.decreases-run
decreases-run l = 2 * depth (statements_of l.statements.now) + 1

abbrev pub decreases-perform : goal.decreases-perform
decreases-perform l = 2 * depth (statements_of (l.statement.now ∷ []))

abbrev pub invariant-run-loop-statement : goal.invariant-run-loop-statement
invariant-run-loop-statement l =
    GoesOn (statements_of (take l.statement-index l.statements)) l.initial.contents l.initial.self l.contents l.self
    × LeadsBack l.initial.contents l.initial.self l.contents l.self
