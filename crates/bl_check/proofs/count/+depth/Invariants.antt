use Rattle.std.proofs.Common.{◌+◌, ◌*◌, ◌≤◌, [], ◌∷◌, take}
use Rattle.bl_syntax.specs.RawBodies.{raw_body}
use Rattle.bl_work.specs.SpelledDepth.{spelled_depth}
use Rattle.bl_work.specs.WhenFaults.{depth_in}
use Rattle.bl_check.proofs.count.+depth.Given as goal

-- how many bodies stand in one another, where a body is more than one of its statements, and that more than the bodies in it
abbrev pub decreases-is_body_shallow : goal.decreases-is_body_shallow
decreases-is_body_shallow l = 2 * spelled_depth l.body.now + 1

abbrev pub decreases-is_statement_shallow : goal.decreases-is_statement_shallow
decreases-is_statement_shallow l = 2 * spelled_depth (raw_body (l.statement.now ∷ []))

-- the statements so far are shallow
abbrev pub invariant-is_body_shallow-loop-statement : goal.invariant-is_body_shallow-loop-statement
invariant-is_body_shallow-loop-statement l = depth_in (raw_body (take l.statement-index l.statement-items)) ≤ l.most
