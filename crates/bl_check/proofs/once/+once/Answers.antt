use Rattle.std.proofs.Common.{[], ◌∷◌, ◌++◌, map, ap, subst, arith}
use Rattle.std.specs.Prelude.{All}
use Rattle.bl_syntax.specs.RawBodies.{raw_access}
use Rattle.bl_work.specs.SpelledDepth.{spelled_depth}
use Rattle.bl_work.specs.First.{IsNameOfFirst}
use Rattle.bl_check.proofs.Joined.{depth-at}
use Rattle.bl_check.proofs.Firsts.{first_before, finds_behind, finds_end, exits, in_body}
use Rattle.bl_check.proofs.Passes.{pass_goes_on, pass_stops, pass_ends, declarations_of, declarations_additive}
use Rattle.bl_work.specs.WhenFaults.{IsOnce, declarations_behind, declarations_in}
use Rattle.bl_work.specs.FirstWhenFault.{declared_document}
use Rattle.bl_syntax.proofs.Boxed.{raw_if_then, raw_if_else, raw_spawn}
use Rattle.bl_check.proofs.once.+once.Goals as goal

pub check_once-check_statement_once-requires : goal.check_once-check_statement_once-requires
check_once-check_statement_once-requires t c =
    omega (arith, c.decreases, depth-at c.statements-statement-items.result.now c.loop-statement.statement-index c.statement-item.result (omega arith) c.statement-item.is, ap spelled_depth c.statements-statement-items.ensures)

pub check_once-returns-in_err-check_statement_once : goal.check_once-returns-in_err-check_statement_once
check_once-returns-in_err-check_statement_once t c =
    exits IsOnce declared_document _ _ _ c.from_residual.ensures.1
    (pass_stops declarations_of declarations_additive IsOnce declared_document c.statements-statement-items.result.now _ (ap declarations_in c.statements-statement-items.ensures) c.loop-statement.statement-index c.statement-item.result _ (omega arith)
    c.statement-item.is c.loop-statement.invariant c.in_err-check_statement_once.ensures)

pub check_once-loop-statement-preserved : goal.check_once-loop-statement-preserved
check_once-loop-statement-preserved t c =
    pass_goes_on declarations_of declarations_additive IsOnce c.statements-statement-items.result.now c.loop-statement.statement-index c.statement-item.result (omega arith) c.statement-item.is
    c.loop-statement.invariant c.in_ok-check_statement_once.ensures

pub check_once-returns : goal.check_once-returns
check_once-returns t c =
    pass_ends declarations_of IsOnce c.statements-statement-items.result.now _ (ap declarations_in c.statements-statement-items.ensures) c.loop-statement.statement-index (omega arith) c.loop-statement.invariant

pub check_statement_once-returns-in_err-check_once-in-IfElse : goal.check_statement_once-returns-in_err-check_once-in-IfElse
check_statement_once-returns-in_err-check_once-in-IfElse t c =
    in_body declarations_in IsOnce declared_document _ _ _ (raw_if_else _ _ _ c.in-IfElse.is c.as_ref-choice-in-IfElse.ensures)
    (exits IsOnce declared_document _ _ _ c.from_residual.ensures.1
    (first_before IsOnce declared_document (declarations_in c.as_ref-choice-in-IfElse.result.now.then_body) (declarations_in c.as_ref-choice-in-IfElse.result.now.else_body ++ []) _ c.in_err-check_once-in-IfElse.ensures))

pub check_statement_once-returns-in_err-check_accesses_once-in-Spawn : goal.check_statement_once-returns-in_err-check_accesses_once-in-Spawn
check_statement_once-returns-in_err-check_accesses_once-in-Spawn t c =
    let found = subst (λ l. IsNameOfFirst IsOnce declared_document (declarations_behind [] (raw_access c.as_ref-when.result.now.first ∷ map raw_access l)) c.in_err-check_accesses_once-in-Spawn.field-0.0.now) c.deref.ensures.value c.in_err-check_accesses_once-in-Spawn.ensures in
    in_body declarations_in IsOnce declared_document _ _ _ (raw_spawn _ _ _ c.in-Spawn.is c.as_ref-when.ensures)
    (exits IsOnce declared_document _ _ _ c.from_residual-in_err-check_accesses_once-in-Spawn.ensures.1
    (first_before IsOnce declared_document (declarations_behind [] (raw_access c.as_ref-when.result.now.first ∷ map raw_access c.as_ref-when.result.now.more.items)) (declarations_in c.as_ref-when.result.now.body ++ []) _ found))

pub check_statement_once-returns-in-IfThen : goal.check_statement_once-returns-in-IfThen
check_statement_once-returns-in-IfThen t c =
    in_body declarations_in IsOnce declared_document _ _ _ (raw_if_then _ _ _ c.in-IfThen.is c.as_ref-choice.ensures) (finds_end IsOnce declared_document (declarations_in c.as_ref-choice.result.now.then_body) _ c.check_once.ensures)

pub check_statement_once-returns-in_ok-check_once-in-IfElse : goal.check_statement_once-returns-in_ok-check_once-in-IfElse
check_statement_once-returns-in_ok-check_once-in-IfElse t c =
    in_body declarations_in IsOnce declared_document _ _ _ (raw_if_else _ _ _ c.in-IfElse.is c.as_ref-choice-in-IfElse.ensures)
    (finds_behind IsOnce declared_document (declarations_in c.as_ref-choice-in-IfElse.result.now.then_body) (declarations_in c.as_ref-choice-in-IfElse.result.now.else_body ++ []) _ c.in_ok-check_once-in-IfElse.ensures
    (finds_end IsOnce declared_document (declarations_in c.as_ref-choice-in-IfElse.result.now.else_body) _ c.check_once-in-IfElse-2.ensures))

pub check_statement_once-returns-in_ok-check_accesses_once-in-Spawn : goal.check_statement_once-returns-in_ok-check_accesses_once-in-Spawn
check_statement_once-returns-in_ok-check_accesses_once-in-Spawn t c =
    let here : All IsOnce (declarations_behind [] (raw_access c.as_ref-when.result.now.first ∷ map raw_access c.deref.result.now)) = c.in_ok-check_accesses_once-in-Spawn.ensures in
    in_body declarations_in IsOnce declared_document _ _ _ (raw_spawn _ _ _ c.in-Spawn.is c.as_ref-when.ensures)
    (finds_behind IsOnce declared_document (declarations_behind [] (raw_access c.as_ref-when.result.now.first ∷ map raw_access c.as_ref-when.result.now.more.items)) (declarations_in c.as_ref-when.result.now.body ++ []) _ (subst (λ l. All IsOnce (declarations_behind [] (raw_access c.as_ref-when.result.now.first ∷ map raw_access l))) c.deref.ensures.value here)
    (finds_end IsOnce declared_document (declarations_in c.as_ref-when.result.now.body) _ c.check_once-in-Spawn.ensures))
