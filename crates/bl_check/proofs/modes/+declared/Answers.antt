use Rattle.std.proofs.Common.{[], ◌∷◌, ◌++◌, map, ap, arith}
use Rattle.bl_syntax.specs.RawBodies.{raw_access}
use Rattle.bl_work.specs.SpelledDepth.{spelled_depth}
use Rattle.bl_work.specs.Modes.{observes, alters, is_write}
use Rattle.bl_check.proofs.Joined.{depth-at}
use Rattle.bl_check.proofs.Firsts.{first_behind, first_before, finds_behind, finds_end, exits, in_statement, in_body}
use Rattle.bl_check.proofs.Passes.{pass_goes_on, pass_stops, pass_ends, uses_of, uses_additive}
use Rattle.bl_work.specs.WhenFaults.{IsDeclared, uses_in}
use Rattle.bl_work.specs.FirstWhenFault.{used_document}
use Rattle.bl_syntax.proofs.Boxed.{raw_if_then, raw_if_else}
use Rattle.bl_check.proofs.modes.+declared.Goals as goal

pub check_declared-check_statement_declared-requires : goal.check_declared-check_statement_declared-requires
check_declared-check_statement_declared-requires t c =
    omega (arith, c.decreases, depth-at c.statements-statement-items.result.now c.loop-statement.statement-index c.statement-item.result (omega arith) c.statement-item.is, ap spelled_depth c.statements-statement-items.ensures)

pub check_declared-returns-in_err-check_statement_declared : goal.check_declared-returns-in_err-check_statement_declared
check_declared-returns-in_err-check_statement_declared t c =
    exits IsDeclared used_document _ _ _ c.from_residual.ensures.1
    (pass_stops (uses_of (raw_access c.args.first ∷ map raw_access c.args.more.now)) (uses_additive (raw_access c.args.first ∷ map raw_access c.args.more.now)) IsDeclared used_document c.statements-statement-items.result.now _ (ap (uses_in (raw_access c.args.first ∷ map raw_access c.args.more.now)) c.statements-statement-items.ensures) c.loop-statement.statement-index c.statement-item.result _ (omega arith)
    c.statement-item.is c.loop-statement.invariant c.in_err-check_statement_declared.ensures)

pub check_declared-loop-statement-preserved : goal.check_declared-loop-statement-preserved
check_declared-loop-statement-preserved t c =
    pass_goes_on (uses_of (raw_access c.args.first ∷ map raw_access c.args.more.now)) (uses_additive (raw_access c.args.first ∷ map raw_access c.args.more.now)) IsDeclared c.statements-statement-items.result.now c.loop-statement.statement-index c.statement-item.result (omega arith) c.statement-item.is
    c.loop-statement.invariant c.in_ok-check_statement_declared.ensures

pub check_declared-returns : goal.check_declared-returns
check_declared-returns t c =
    pass_ends (uses_of (raw_access c.args.first ∷ map raw_access c.args.more.now)) IsDeclared c.statements-statement-items.result.now _ (ap (uses_in (raw_access c.args.first ∷ map raw_access c.args.more.now)) c.statements-statement-items.ensures) c.loop-statement.statement-index (omega arith) c.loop-statement.invariant

pub check_statement_declared-returns-in_err-check_use-in-Copy : goal.check_statement_declared-returns-in_err-check_use-in-Copy
check_statement_declared-returns-in_err-check_use-in-Copy t c =
    in_statement (uses_of (raw_access c.args.first ∷ map raw_access c.args.more.now)) IsDeclared used_document _ _ _ c.in-Copy.is
    (exits IsDeclared used_document _ _ _ c.from_residual.ensures.1
    (first_before IsDeclared used_document (record { declared = raw_access c.args.first ∷ map raw_access c.args.more.now; asked = observes; document = c.in-Copy.from.now } ∷ []) (record { declared = raw_access c.args.first ∷ map raw_access c.args.more.now; asked = is_write; document = c.in-Copy.to.now } ∷ []) _
    c.in_err-check_use-in-Copy.ensures))

pub check_statement_declared-returns-in_err-check_use-in-Pour : goal.check_statement_declared-returns-in_err-check_use-in-Pour
check_statement_declared-returns-in_err-check_use-in-Pour t c =
    in_statement (uses_of (raw_access c.args.first ∷ map raw_access c.args.more.now)) IsDeclared used_document _ _ _ c.in-Pour.is
    (exits IsDeclared used_document _ _ _ c.from_residual-in_err-check_use-in-Pour.ensures.1
    (first_before IsDeclared used_document (record { declared = raw_access c.args.first ∷ map raw_access c.args.more.now; asked = observes; document = c.in-Pour.from.now } ∷ []) (record { declared = raw_access c.args.first ∷ map raw_access c.args.more.now; asked = alters; document = c.in-Pour.to.now } ∷ []) _
    c.in_err-check_use-in-Pour.ensures))

pub check_statement_declared-returns-in_err-check_use-in-IfThen : goal.check_statement_declared-returns-in_err-check_use-in-IfThen
check_statement_declared-returns-in_err-check_use-in-IfThen t c =
    in_body (uses_in (raw_access c.args.first ∷ map raw_access c.args.more.now)) IsDeclared used_document _ _ _ (raw_if_then _ _ _ c.in-IfThen.is c.as_ref-choice.ensures)
    (exits IsDeclared used_document _ _ _ c.from_residual-in_err-check_use-in-IfThen.ensures.1 (first_before IsDeclared used_document _ _ _ c.in_err-check_use-in-IfThen.ensures))

pub check_statement_declared-returns-in_err-check_use-in-IfElse : goal.check_statement_declared-returns-in_err-check_use-in-IfElse
check_statement_declared-returns-in_err-check_use-in-IfElse t c =
    in_body (uses_in (raw_access c.args.first ∷ map raw_access c.args.more.now)) IsDeclared used_document _ _ _ (raw_if_else _ _ _ c.in-IfElse.is c.as_ref-choice-in-IfElse.ensures)
    (exits IsDeclared used_document _ _ _ c.from_residual-in_err-check_use-in-IfElse.ensures.1 (first_before IsDeclared used_document _ _ _ c.in_err-check_use-in-IfElse.ensures))

pub check_statement_declared-returns-in_err-check_declared-in-IfElse : goal.check_statement_declared-returns-in_err-check_declared-in-IfElse
check_statement_declared-returns-in_err-check_declared-in-IfElse t c =
    in_body (uses_in (raw_access c.args.first ∷ map raw_access c.args.more.now)) IsDeclared used_document _ _ _ (raw_if_else _ _ _ c.in-IfElse.is c.as_ref-choice-in-IfElse.ensures)
    (exits IsDeclared used_document _ _ _ c.from_residual-in_err-check_declared-in-IfElse.ensures.1
    (first_behind IsDeclared used_document (record { declared = raw_access c.args.first ∷ map raw_access c.args.more.now; asked = observes; document = c.as_ref-choice-in-IfElse.result.now.document.now } ∷ [])
    (uses_in (raw_access c.args.first ∷ map raw_access c.args.more.now) c.as_ref-choice-in-IfElse.result.now.then_body ++ (uses_in (raw_access c.args.first ∷ map raw_access c.args.more.now) c.as_ref-choice-in-IfElse.result.now.else_body ++ [])) _ c.in_ok-check_use-in-IfElse.ensures
    (first_before IsDeclared used_document (uses_in (raw_access c.args.first ∷ map raw_access c.args.more.now) c.as_ref-choice-in-IfElse.result.now.then_body) (uses_in (raw_access c.args.first ∷ map raw_access c.args.more.now) c.as_ref-choice-in-IfElse.result.now.else_body ++ []) _ c.in_err-check_declared-in-IfElse.ensures)))

pub check_statement_declared-returns-in_ok-check_use-in-Copy : goal.check_statement_declared-returns-in_ok-check_use-in-Copy
check_statement_declared-returns-in_ok-check_use-in-Copy t c =
    in_statement (uses_of (raw_access c.args.first ∷ map raw_access c.args.more.now)) IsDeclared used_document _ _ _ c.in-Copy.is
    (finds_behind IsDeclared used_document (record { declared = raw_access c.args.first ∷ map raw_access c.args.more.now; asked = observes; document = c.in-Copy.from.now } ∷ []) (record { declared = raw_access c.args.first ∷ map raw_access c.args.more.now; asked = is_write; document = c.in-Copy.to.now } ∷ []) _
    c.in_ok-check_use-in-Copy.ensures c.check_use-in-Copy-2.ensures)

pub check_statement_declared-returns-in_ok-check_use-in-Pour : goal.check_statement_declared-returns-in_ok-check_use-in-Pour
check_statement_declared-returns-in_ok-check_use-in-Pour t c =
    in_statement (uses_of (raw_access c.args.first ∷ map raw_access c.args.more.now)) IsDeclared used_document _ _ _ c.in-Pour.is
    (finds_behind IsDeclared used_document (record { declared = raw_access c.args.first ∷ map raw_access c.args.more.now; asked = observes; document = c.in-Pour.from.now } ∷ []) (record { declared = raw_access c.args.first ∷ map raw_access c.args.more.now; asked = alters; document = c.in-Pour.to.now } ∷ []) _
    c.in_ok-check_use-in-Pour.ensures c.check_use-in-Pour-2.ensures)

pub check_statement_declared-returns-in_ok-check_use-in-IfThen : goal.check_statement_declared-returns-in_ok-check_use-in-IfThen
check_statement_declared-returns-in_ok-check_use-in-IfThen t c =
    in_body (uses_in (raw_access c.args.first ∷ map raw_access c.args.more.now)) IsDeclared used_document _ _ _ (raw_if_then _ _ _ c.in-IfThen.is c.as_ref-choice.ensures)
    (finds_behind IsDeclared used_document (record { declared = raw_access c.args.first ∷ map raw_access c.args.more.now; asked = observes; document = c.as_ref-choice.result.now.document.now } ∷ []) (uses_in (raw_access c.args.first ∷ map raw_access c.args.more.now) c.as_ref-choice.result.now.then_body ++ []) _
    c.in_ok-check_use-in-IfThen.ensures (finds_end IsDeclared used_document (uses_in (raw_access c.args.first ∷ map raw_access c.args.more.now) c.as_ref-choice.result.now.then_body) _ c.check_declared.ensures))

pub check_statement_declared-returns-in_ok-check_declared-in-IfElse : goal.check_statement_declared-returns-in_ok-check_declared-in-IfElse
check_statement_declared-returns-in_ok-check_declared-in-IfElse t c =
    in_body (uses_in (raw_access c.args.first ∷ map raw_access c.args.more.now)) IsDeclared used_document _ _ _ (raw_if_else _ _ _ c.in-IfElse.is c.as_ref-choice-in-IfElse.ensures)
    (finds_behind IsDeclared used_document (record { declared = raw_access c.args.first ∷ map raw_access c.args.more.now; asked = observes; document = c.as_ref-choice-in-IfElse.result.now.document.now } ∷ [])
    (uses_in (raw_access c.args.first ∷ map raw_access c.args.more.now) c.as_ref-choice-in-IfElse.result.now.then_body ++ (uses_in (raw_access c.args.first ∷ map raw_access c.args.more.now) c.as_ref-choice-in-IfElse.result.now.else_body ++ [])) _ c.in_ok-check_use-in-IfElse.ensures
    (finds_behind IsDeclared used_document (uses_in (raw_access c.args.first ∷ map raw_access c.args.more.now) c.as_ref-choice-in-IfElse.result.now.then_body) (uses_in (raw_access c.args.first ∷ map raw_access c.args.more.now) c.as_ref-choice-in-IfElse.result.now.else_body ++ []) _ c.in_ok-check_declared-in-IfElse.ensures
    (finds_end IsDeclared used_document (uses_in (raw_access c.args.first ∷ map raw_access c.args.more.now) c.as_ref-choice-in-IfElse.result.now.else_body) _ c.check_declared-in-IfElse-2.ensures)))
