use Rattle.std.proofs.Common.{◌≡◌, ◌+◌, [], ◌∷◌, ap, sym, subst, arith}
use Rattle.bl_syntax.specs.RawBodies.{raw_access, raw_body}
use Rattle.bl_work.specs.SpelledDepth.{spelled_depth}
use Rattle.bl_work.specs.Meaning.{whens}
use Rattle.bl_work.specs.FirstWhenFault.{AreFewIn}
use Rattle.bl_check.proofs.Joined.{depth-at}
use Rattle.bl_check.proofs.Few.{Leaves, few_stops, few_goes_on, few_else, few_spawn}
use Rattle.bl_syntax.proofs.Boxed.{raw_if_else, raw_spawn}
use Rattle.bl_check.proofs.count.+few.Goals as goal

pub whens_left-whens_left_behind-requires : goal.whens_left-whens_left_behind-requires
whens_left-whens_left_behind-requires t c =
    omega (arith, c.decreases, depth-at c.statements-statement-items.result.now c.loop-statement.statement-index c.statement-item.result (omega arith) c.statement-item.is, ap spelled_depth c.statements-statement-items.ensures)

pub whens_left-returns-in_err-left : goal.whens_left-returns-in_err-left
whens_left-returns-in_err-left t c =
    subst (λ z. Leaves c.args.most c.args.body.now z) (sym c.from_residual.ensures)
    (few_stops c.statements-statement-items.result.now c.args.body.now c.statements-statement-items.ensures c.loop-statement.statement-index c.statement-item.result c.args.most c.loop-statement.left (omega arith)
    c.statement-item.is c.loop-statement.invariant.1 (λ few. c.in_err-left.ensures few))

pub whens_left-loop-statement-preserved : goal.whens_left-loop-statement-preserved
whens_left-loop-statement-preserved t c =
    let here : AreFewIn c.loop-statement.left (raw_body (c.statement-item.result ∷ [])) × (whens (raw_body (c.statement-item.result ∷ [])) + c.in_ok-left.left ≡ c.loop-statement.left) = c.in_ok-left.ensures in
    few_goes_on c.statements-statement-items.result.now c.loop-statement.statement-index c.statement-item.result c.args.most c.loop-statement.left c.in_ok-left.left (omega arith)
    c.statement-item.is c.loop-statement.invariant.0 c.loop-statement.invariant.1 here.0 here.1

pub whens_left_behind-returns-in_ok-left-in-IfElse : goal.whens_left_behind-returns-in_ok-left-in-IfElse
whens_left_behind-returns-in_ok-left-in-IfElse t c =
    let here : AreFewIn c.args.most c.as_ref-choice-in-IfElse.result.now.then_body × (whens c.as_ref-choice-in-IfElse.result.now.then_body + c.in_ok-left-in-IfElse.left ≡ c.args.most) = c.in_ok-left-in-IfElse.ensures in
    subst (λ b. Leaves c.args.most b c.whens_left-in-IfElse-2.result) (sym (raw_if_else _ _ _ c.in-IfElse.is c.as_ref-choice-in-IfElse.ensures))
    (few_else c.as_ref-choice-in-IfElse.result.now.document.now c.as_ref-choice-in-IfElse.result.now.test c.as_ref-choice-in-IfElse.result.now.text.now c.as_ref-choice-in-IfElse.result.now.then_body c.as_ref-choice-in-IfElse.result.now.else_body c.args.most c.in_ok-left-in-IfElse.left _
    here.0 here.1 c.whens_left-in-IfElse-2.ensures)

pub whens_left_behind-returns-else-len-ge-MOST_ACCESSES : goal.whens_left_behind-returns-else-len-ge-MOST_ACCESSES
whens_left_behind-returns-else-len-ge-MOST_ACCESSES t c =
    subst (λ b. Leaves c.args.most b c.whens_left-in-Spawn.result) (sym (raw_spawn _ _ _ c.in-Spawn.is c.as_ref-when.ensures))
    (few_spawn (raw_access c.as_ref-when.result.now.first) c.as_ref-when.result.now.more.items c.as_ref-when.result.now.body c.args.most _ (omega arith)
    (omega (arith, c.len.ensures, c.as_ref-when.result.now.more.ok.0)) c.whens_left-in-Spawn.ensures)
