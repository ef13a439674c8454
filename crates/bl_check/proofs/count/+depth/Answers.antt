use Rattle.std.proofs.Common.{ap, sym, ◌∙◌, arith}
use Rattle.bl_work.specs.SpelledDepth.{spelled_depth}
use Rattle.bl_work.specs.WhenFaults.{depth_in}
use Rattle.bl_check.proofs.Joined.{depth-at, depth_in-at}
use Rattle.bl_check.proofs.Few.{depth_goes_on}
use Rattle.bl_check.proofs.count.+depth.Goals as goal

pub is_body_shallow-is_statement_shallow-requires : goal.is_body_shallow-is_statement_shallow-requires
is_body_shallow-is_statement_shallow-requires t c =
    omega (arith, c.decreases, depth-at c.statements-statement-items.result.now c.loop-statement.statement-index c.statement-item.result (omega arith) c.statement-item.is, ap spelled_depth c.statements-statement-items.ensures)

pub is_body_shallow-returns-then-not-is_statement_shallow : goal.is_body_shallow-returns-then-not-is_statement_shallow
is_body_shallow-returns-then-not-is_statement_shallow t c =
    let lower = depth_in-at c.statements-statement-items.result.now c.loop-statement.statement-index c.statement-item.result (omega arith) c.statement-item.is in (
      λ h. cc,
      λ le. sym c.if-not-is_statement_shallow.true ∙ c.is_statement_shallow.ensures.1 (omega (arith, le, lower, ap depth_in c.statements-statement-items.ensures)),
    )

pub is_body_shallow-loop-statement-preserved : goal.is_body_shallow-loop-statement-preserved
is_body_shallow-loop-statement-preserved t c =
    depth_goes_on c.statements-statement-items.result.now c.loop-statement.statement-index c.statement-item.result c.args.most (omega arith) c.statement-item.is c.loop-statement.invariant
    (c.is_statement_shallow.ensures.0 c.if-not-is_statement_shallow.false)
