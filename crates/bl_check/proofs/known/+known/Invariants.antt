use Rattle.std.proofs.Common.{◌+◌, ◌*◌, [], ◌∷◌, take}
use Rattle.std.specs.Prelude.{All, Contains}
use Rattle.bl_syntax.specs.RawBodies.{raw_body}
use Rattle.bl_work.specs.SpelledDepth.{spelled_depth}
use Rattle.bl_work.specs.WhenFaults.{names_in}
use Rattle.bl_check.proofs.known.+known.Given as goal

-- how many bodies stand in one another, where a `when` is more than its body, a body more than one of its statements, and that more
-- than what stands in it
abbrev pub decreases-check_when_known : goal.decreases-check_when_known
decreases-check_when_known l = 3 * spelled_depth l.body.now + 2

abbrev pub decreases-check_known : goal.decreases-check_known
decreases-check_known l = 3 * spelled_depth l.body.now + 1

abbrev pub decreases-check_statement_known : goal.decreases-check_statement_known
decreases-check_statement_known l = 3 * spelled_depth (raw_body (l.statement.now ∷ []))

-- the names so far are known
abbrev pub invariant-check_known-loop-statement : goal.invariant-check_known-loop-statement
invariant-check_known-loop-statement l = All (Contains l.names.documents) (names_in (raw_body (take l.statement-index l.statement-items)))
