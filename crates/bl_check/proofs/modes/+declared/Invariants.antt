use Rattle.std.proofs.Common.{◌+◌, ◌*◌, [], ◌∷◌, map, take}
use Rattle.std.specs.Prelude.{All}
use Rattle.bl_syntax.specs.RawBodies.{raw_access, raw_body}
use Rattle.bl_work.specs.SpelledDepth.{spelled_depth}
use Rattle.bl_work.specs.WhenFaults.{IsDeclared, uses_in}
use Rattle.bl_check.proofs.modes.+declared.Given as goal

-- how many bodies stand in one another, where a body is more than one of its statements, and that more than the bodies in it
abbrev pub decreases-check_declared : goal.decreases-check_declared
decreases-check_declared l = 2 * spelled_depth l.body.now + 1

abbrev pub decreases-check_statement_declared : goal.decreases-check_statement_declared
decreases-check_statement_declared l = 2 * spelled_depth (raw_body (l.statement.now ∷ []))

-- the documents so far are declared
abbrev pub invariant-check_declared-loop-statement : goal.invariant-check_declared-loop-statement
invariant-check_declared-loop-statement l = All IsDeclared (uses_in (raw_access l.first ∷ map raw_access l.more) (raw_body (take l.statement-index l.statement-items)))
