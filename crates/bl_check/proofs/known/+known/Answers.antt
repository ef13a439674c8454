use Rattle.std.proofs.Common.{List, [], ◌∷◌, ◌++◌, map, ap, sym, ◌∙◌, subst, arith, append-nil}
use Rattle.std.specs.Prelude.{All, Contains}
use Rattle.bl_syntax.specs.declared.raw.RawAccess.{RawAccess}
use Rattle.bl_syntax.specs.declared.raw.RawStatement.{RawStatement}
use Rattle.bl_syntax.specs.RawBodies.{raw_access, raw_body}
use Rattle.bl_work.specs.SpelledDepth.{spelled_depth}
use Rattle.bl_work.specs.First.{IsNameOfFirst}
use Rattle.bl_check.proofs.Joined.{depth-at}
use Rattle.bl_check.proofs.Firsts.{Finds, first_behind, first_before, finds_behind, finds_end, exits, in_statement, in_body}
use Rattle.bl_check.proofs.Passes.{pass_goes_on, pass_stops, pass_ends, names_of, names_additive}
use Rattle.bl_work.specs.WhenFaults.{documents_in, names_in, names_of_when}
use Rattle.bl_work.specs.FirstWhenFault.{same_name}
use Rattle.bl_check.specs.OfDocuments.{AreOfDocuments}
use Rattle.bl_syntax.proofs.Boxed.{raw_if_then, raw_if_else, raw_spawn}
use Rattle.bl_check.proofs.known.+known.Goals as goal

pub check_known-check_statement_known-requires : goal.check_known-check_statement_known-requires
check_known-check_statement_known-requires t c =
    let lower = depth-at c.statements-statement-items.result.now c.loop-statement.statement-index c.statement-item.result (omega arith) c.statement-item.is in
    (omega (arith, c.decreases, lower, ap spelled_depth c.statements-statement-items.ensures), c.requires)

pub check_known-returns-in_err-check_statement_known : goal.check_known-returns-in_err-check_statement_known
check_known-returns-in_err-check_statement_known t c =
    exits (Contains c.args.names.now.documents) same_name _ _ _ c.from_residual.ensures.1
    (pass_stops names_of names_additive (Contains c.args.names.now.documents) same_name c.statements-statement-items.result.now _ (ap names_in c.statements-statement-items.ensures) c.loop-statement.statement-index c.statement-item.result _ (omega arith)
    c.statement-item.is c.loop-statement.invariant c.in_err-check_statement_known.ensures)

pub check_known-loop-statement-preserved : goal.check_known-loop-statement-preserved
check_known-loop-statement-preserved t c =
    pass_goes_on names_of names_additive (Contains c.args.names.now.documents) c.statements-statement-items.result.now c.loop-statement.statement-index c.statement-item.result (omega arith) c.statement-item.is
    c.loop-statement.invariant c.in_ok-check_statement_known.ensures

pub check_known-returns : goal.check_known-returns
check_known-returns t c =
    pass_ends names_of (Contains c.args.names.now.documents) c.statements-statement-items.result.now _ (ap names_in c.statements-statement-items.ensures) c.loop-statement.statement-index (omega arith) c.loop-statement.invariant

pub check_statement_known-returns-in_err-check_used_known-in-Copy : goal.check_statement_known-returns-in_err-check_used_known-in-Copy
check_statement_known-returns-in_err-check_used_known-in-Copy t c =
    in_statement names_of (Contains c.args.names.now.documents) same_name _ _ _ c.in-Copy.is
    (exits (Contains c.args.names.now.documents) same_name _ _ _ c.from_residual.ensures.1
    (first_before (Contains c.args.names.now.documents) same_name (c.in-Copy.from.now ∷ []) (c.in-Copy.to.now ∷ []) _ c.in_err-check_used_known-in-Copy.ensures))

pub check_statement_known-returns-in_err-check_used_known-in-Pour : goal.check_statement_known-returns-in_err-check_used_known-in-Pour
check_statement_known-returns-in_err-check_used_known-in-Pour t c =
    in_statement names_of (Contains c.args.names.now.documents) same_name _ _ _ c.in-Pour.is
    (exits (Contains c.args.names.now.documents) same_name _ _ _ c.from_residual-in_err-check_used_known-in-Pour.ensures.1
    (first_before (Contains c.args.names.now.documents) same_name (c.in-Pour.from.now ∷ []) (c.in-Pour.to.now ∷ []) _ c.in_err-check_used_known-in-Pour.ensures))

pub check_statement_known-returns-in_err-check_used_known-in-IfThen : goal.check_statement_known-returns-in_err-check_used_known-in-IfThen
check_statement_known-returns-in_err-check_used_known-in-IfThen t c =
    in_body names_in (Contains c.args.names.now.documents) same_name _ _ _ (raw_if_then _ _ _ c.in-IfThen.is c.as_ref-choice.ensures)
    (exits (Contains c.args.names.now.documents) same_name _ _ _ c.from_residual-in_err-check_used_known-in-IfThen.ensures.1 (first_before (Contains c.args.names.now.documents) same_name _ _ _ c.in_err-check_used_known-in-IfThen.ensures))

pub check_statement_known-returns-in_err-check_used_known-in-IfElse : goal.check_statement_known-returns-in_err-check_used_known-in-IfElse
check_statement_known-returns-in_err-check_used_known-in-IfElse t c =
    in_body names_in (Contains c.args.names.now.documents) same_name _ _ _ (raw_if_else _ _ _ c.in-IfElse.is c.as_ref-choice-in-IfElse.ensures)
    (exits (Contains c.args.names.now.documents) same_name _ _ _ c.from_residual-in_err-check_used_known-in-IfElse.ensures.1 (first_before (Contains c.args.names.now.documents) same_name _ _ _ c.in_err-check_used_known-in-IfElse.ensures))

pub check_statement_known-returns-in_err-check_known-in-IfElse : goal.check_statement_known-returns-in_err-check_known-in-IfElse
check_statement_known-returns-in_err-check_known-in-IfElse t c =
    in_body names_in (Contains c.args.names.now.documents) same_name _ _ _ (raw_if_else _ _ _ c.in-IfElse.is c.as_ref-choice-in-IfElse.ensures)
    (exits (Contains c.args.names.now.documents) same_name _ _ _ c.from_residual-in_err-check_known-in-IfElse.ensures.1
    (first_behind (Contains c.args.names.now.documents) same_name (c.as_ref-choice-in-IfElse.result.now.document.now ∷ []) (names_in c.as_ref-choice-in-IfElse.result.now.then_body ++ (names_in c.as_ref-choice-in-IfElse.result.now.else_body ++ [])) _ c.in_ok-check_used_known-in-IfElse.ensures
    (first_before (Contains c.args.names.now.documents) same_name (names_in c.as_ref-choice-in-IfElse.result.now.then_body) (names_in c.as_ref-choice-in-IfElse.result.now.else_body ++ []) _ c.in_err-check_known-in-IfElse.ensures)))

pub check_statement_known-returns-in_ok-check_used_known-in-Copy : goal.check_statement_known-returns-in_ok-check_used_known-in-Copy
check_statement_known-returns-in_ok-check_used_known-in-Copy t c =
    in_statement names_of (Contains c.args.names.now.documents) same_name _ _ _ c.in-Copy.is
    (finds_behind (Contains c.args.names.now.documents) same_name (c.in-Copy.from.now ∷ []) (c.in-Copy.to.now ∷ []) _ c.in_ok-check_used_known-in-Copy.ensures c.check_used_known-in-Copy.ensures)

pub check_statement_known-returns-in_ok-check_used_known-in-Pour : goal.check_statement_known-returns-in_ok-check_used_known-in-Pour
check_statement_known-returns-in_ok-check_used_known-in-Pour t c =
    in_statement names_of (Contains c.args.names.now.documents) same_name _ _ _ c.in-Pour.is
    (finds_behind (Contains c.args.names.now.documents) same_name (c.in-Pour.from.now ∷ []) (c.in-Pour.to.now ∷ []) _ c.in_ok-check_used_known-in-Pour.ensures c.check_used_known-in-Pour-2.ensures)

pub check_statement_known-returns-in_ok-check_used_known-in-IfThen : goal.check_statement_known-returns-in_ok-check_used_known-in-IfThen
check_statement_known-returns-in_ok-check_used_known-in-IfThen t c =
    in_body names_in (Contains c.args.names.now.documents) same_name _ _ _ (raw_if_then _ _ _ c.in-IfThen.is c.as_ref-choice.ensures)
    (finds_behind (Contains c.args.names.now.documents) same_name (c.as_ref-choice.result.now.document.now ∷ []) (names_in c.as_ref-choice.result.now.then_body ++ []) _ c.in_ok-check_used_known-in-IfThen.ensures
    (finds_end (Contains c.args.names.now.documents) same_name (names_in c.as_ref-choice.result.now.then_body) _ c.check_known.ensures))

pub check_statement_known-returns-in_ok-check_known-in-IfElse : goal.check_statement_known-returns-in_ok-check_known-in-IfElse
check_statement_known-returns-in_ok-check_known-in-IfElse t c =
    in_body names_in (Contains c.args.names.now.documents) same_name _ _ _ (raw_if_else _ _ _ c.in-IfElse.is c.as_ref-choice-in-IfElse.ensures)
    (finds_behind (Contains c.args.names.now.documents) same_name (c.as_ref-choice-in-IfElse.result.now.document.now ∷ []) (names_in c.as_ref-choice-in-IfElse.result.now.then_body ++ (names_in c.as_ref-choice-in-IfElse.result.now.else_body ++ [])) _ c.in_ok-check_used_known-in-IfElse.ensures
    (finds_behind (Contains c.args.names.now.documents) same_name (names_in c.as_ref-choice-in-IfElse.result.now.then_body) (names_in c.as_ref-choice-in-IfElse.result.now.else_body ++ []) _ c.in_ok-check_known-in-IfElse.ensures
    (finds_end (Contains c.args.names.now.documents) same_name (names_in c.as_ref-choice-in-IfElse.result.now.else_body) _ c.check_known-in-IfElse-2.ensures)))

pub check_statement_known-check_when_known-requires : goal.check_statement_known-check_when_known-requires
check_statement_known-check_when_known-requires t c =
    omega (arith, c.decreases, ap spelled_depth (raw_spawn _ _ _ c.in-Spawn.is c.as_ref-when.ensures))

pub check_statement_known-returns-in-Spawn : goal.check_statement_known-returns-in-Spawn
check_statement_known-returns-in-Spawn t c =
    let w = c.as_ref-when.result.now in
    let known = Contains c.args.names.now.documents in
    let found = subst (λ l. Finds known same_name (names_of_when (raw_access w.first) (map raw_access l) w.body) c.check_when_known.result) c.deref.ensures.value c.check_when_known.ensures in
    in_body names_in known same_name _ _ _ (raw_spawn _ _ _ c.in-Spawn.is c.as_ref-when.ensures)
    (subst (λ ys. Finds known same_name (documents_in (raw_access w.first ∷ map raw_access w.more.items) ++ ys) c.check_when_known.result) (sym (append-nil (names_in w.body))) found)

pub check_when_known-check_known-requires : goal.check_when_known-check_known-requires
check_when_known-check_known-requires t c = (omega (arith, c.decreases), c.in_ok-check_accesses_known.ensures)

pub check_when_known-returns-in_err-check_accesses_known : goal.check_when_known-returns-in_err-check_accesses_known
check_when_known-returns-in_err-check_accesses_known t c =
    let known = Contains c.args.names.now.documents in
    exits known same_name _ _ _ c.from_residual.ensures.1
    (first_before known same_name (documents_in (raw_access c.args.first ∷ map raw_access c.args.more.now)) (names_in c.args.body.now) _ c.in_err-check_accesses_known.ensures)

pub check_when_known-returns : goal.check_when_known-returns
check_when_known-returns t c =
    finds_behind (Contains c.args.names.now.documents) same_name (documents_in (raw_access c.args.first ∷ map raw_access c.args.more.now)) (names_in c.args.body.now) _
    c.in_ok-check_accesses_known.ensures c.check_known.ensures
