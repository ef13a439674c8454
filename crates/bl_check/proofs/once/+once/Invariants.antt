use Rattle.std.proofs.Common.{◌+◌, ◌*◌, [], ◌∷◌, take}
use Rattle.std.specs.Prelude.{All}
use Rattle.bl_syntax.specs.RawBodies.{raw_body}
use Rattle.bl_work.specs.SpelledDepth.{spelled_depth}
use Rattle.bl_work.specs.WhenFaults.{IsOnce, declarations_in}
use Rattle.bl_check.proofs.once.+once.Given as goal

-- how many bodies stand in one another, where a body is more than one of its statements, and that more than the bodies in it
abbrev pub decreases-check_once : goal.decreases-check_once
decreases-check_once l = 2 * spelled_depth l.body.now + 1

abbrev pub decreases-check_statement_once : goal.decreases-check_statement_once
decreases-check_statement_once l = 2 * spelled_depth (raw_body (l.statement.now ∷ []))

-- the statements so far declare no document twice
abbrev pub invariant-check_once-loop-statement : goal.invariant-check_once-loop-statement
invariant-check_once-loop-statement l = All IsOnce (declarations_in (raw_body (take l.statement-index l.statement-items)))
