use Rattle.std.proofs.Common.{◌≡◌, [], ◌∷◌, ap, sym, ◌∙◌, subst, arith}
use Rattle.std.specs.Prelude.{List}
use Rattle.std.proofs.lemmas.Result.{on_ok_weaker}
use Rattle.bl_policy.specs.declared.access.Access.{Access}
use Rattle.bl_work.specs.Modes.{KeepsModes}
use Rattle.bl_work.specs.Script.{AreApart, HasContents}
use Rattle.bl_work.specs.Statements.{Statements, If, Nothing}
use Rattle.bl_work.specs.declared.script.Choice.{Choice}
use Rattle.bl_work.specs.Body.{statements_of, depth}
use Rattle.bl_work.specs.declared.script.Stmt.{Stmt}
use Rattle.bl_grant.specs.Loans.{accesses_of}
use Rattle.bl_eval.specs.Told.{HasRun}
use Rattle.bl_eval.proofs.Steps.{accesses-kept}
use Rattle.bl_eval.proofs.Runs.{if-run, run-more, modes-at, texts-at, depth-at}
use Rattle.bl_eval.proofs.told.Told.+run.Goals as goal

pub run-step-requires : goal.run-step-requires
run-step-requires t c =
    let same = sym (accesses-kept c.args.grants.now c.loop-statement.grants c.loop-statement.invariant.0) in
    let lower = depth-at c.args.statements.now c.loop-statement.statement-index c.statement-item.result (omega arith) c.statement-item.is in (
      omega (arith, c.decreases, lower),
      (
        subst (λ (xs : List Access). AreApart xs) same c.requires.apart,
        (
          subst (λ (xs : List Access). KeepsModes xs (statements_of (c.statement-item.result ∷ []))) same
              (modes-at (accesses_of c.args.grants.now) c.args.statements.now c.loop-statement.statement-index c.statement-item.result (omega arith) c.statement-item.is c.requires.modes),
          texts-at c.args.statements.now c.loop-statement.statement-index c.statement-item.result (omega arith) c.statement-item.is c.requires.texts,
        ),
      ),
    )

pub run-loop-statement-preserved : goal.run-loop-statement-preserved
run-loop-statement-preserved t c = (
  c.step.ensures.kept ∙ c.loop-statement.invariant.0,
  run-more c.args.statements.now c.loop-statement.statement-index c.statement-item.result c.args.grants.now c.loop-statement.grants c.step.new.grants
      c.args.self.now c.loop-statement.self c.step.new.self (omega arith) c.statement-item.is c.loop-statement.invariant.1 c.in_ok-step.ensures.ran,
)

-- the statement at hand is an `if` of these parts
abbrev chosen : Choice → Statements
chosen choice = If choice.doc choice.test choice.text choice.then_body choice.else_body Nothing

pub step-run-requires : goal.step-run-requires
step-run-requires t c =
    let is : statements_of (c.args.statement.now ∷ []) ≡ chosen c.deref-choice.result.now =
    ap (λ (s : Stmt). statements_of (s ∷ [])) c.in-If.is ∙ ap chosen (sym c.deref-choice.ensures) in
    let modes = subst (λ (b : Statements). KeepsModes (accesses_of c.args.grants.now) b) is c.requires.modes in
    let texts = subst (λ (b : Statements). HasContents b) is c.requires.texts in
    let outer = ap depth is in
    let inner = ap depth c.statements.ensures in (
      omega (arith, c.decreases, outer, inner),
      (
        c.requires.apart,
        (
          subst (λ (b : Statements). KeepsModes (accesses_of c.args.grants.now) b) (sym c.statements.ensures) modes.1,
          subst (λ (b : Statements). HasContents b) (sym c.statements.ensures) texts.1,
        ),
      ),
    )

pub step-returns-then-holds-clause-ran : goal.step-returns-then-holds-clause-ran
step-returns-then-holds-clause-ran t c =
    let choice = c.deref-choice.result.now in
    let is : statements_of (c.args.statement.now ∷ []) ≡ chosen choice =
    ap (λ (s : Stmt). statements_of (s ∷ [])) c.in-If.is ∙ ap chosen (sym c.deref-choice.ensures) in
    let modes = subst (λ (b : Statements). KeepsModes (accesses_of c.args.grants.now) b) is c.requires.modes in
    on_ok_weaker c.run.result
    (λ ran. subst (λ (b : Statements). HasRun b c.args.grants.now c.args.self.now c.run.new.grants c.run.new.self) (sym is)
    (if-run c.args.grants.now c.run.new.grants c.args.self.now c.run.new.self choice.doc choice.test choice.text choice.then_body choice.else_body _ modes.0
    (sym c.if-holds.true ∙ c.holds.ensures)
    (subst (λ (b : Statements). HasRun b c.args.grants.now c.args.self.now c.run.new.grants c.run.new.self) c.statements.ensures ran)))
    c.run.ensures.ran

pub step-returns-else-holds-clause-ran : goal.step-returns-else-holds-clause-ran
step-returns-else-holds-clause-ran t c =
    let choice = c.deref-choice.result.now in
    let is : statements_of (c.args.statement.now ∷ []) ≡ chosen choice =
    ap (λ (s : Stmt). statements_of (s ∷ [])) c.in-If.is ∙ ap chosen (sym c.deref-choice.ensures) in
    let modes = subst (λ (b : Statements). KeepsModes (accesses_of c.args.grants.now) b) is c.requires.modes in
    on_ok_weaker c.run-else-holds.result
    (λ ran. subst (λ (b : Statements). HasRun b c.args.grants.now c.args.self.now c.run-else-holds.new.grants c.run-else-holds.new.self) (sym is)
    (if-run c.args.grants.now c.run-else-holds.new.grants c.args.self.now c.run-else-holds.new.self choice.doc choice.test choice.text choice.then_body choice.else_body _ modes.0
    (sym c.if-holds.false ∙ c.holds.ensures)
    (subst (λ (b : Statements). HasRun b c.args.grants.now c.args.self.now c.run-else-holds.new.grants c.run-else-holds.new.self) c.statements-else-holds.ensures ran)))
    c.run-else-holds.ensures.ran
