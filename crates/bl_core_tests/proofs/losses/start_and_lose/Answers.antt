use Rattle.std.proofs.Common.{sym, ap, subst, ◌∙◌}
use Rattle.bl_order.specs.Machine.{State, runs}
use Rattle.bl_order.proofs.Sound.{IsSound}
use Rattle.bl_order.proofs.Reached.{sound-reached}
use Rattle.bl_eval.specs.Loan.{Loan}
use Rattle.bl_core.specs.Answers.{IsStarted, loan_at}
use Rattle.bl_core.proofs.Started.{loan-started, runs-started}
use Rattle.bl_core_tests.proofs.losses.start_and_lose.Goals as goal

pub lose_running-requires-clause-running : goal.lose_running-requires-clause-running
lose_running-requires-clause-running g c =
    let x = c.args.core.now in
    let n = c.args.n in
    let sound : IsSound x = sound-reached x c.policy-policy.ensures.reached in
    let ok = c.in-Ok-Run.ensures.ok in
    let begun = subst (IsStarted x n) c.in-Ok-Run.field-0-is ok.0 in
    ap (λ (l : Loan). runs c.start.new.self l.entry) begun.1 ∙ ap (λ (y : State). runs y n) ok.1 ∙ runs-started x n sound c.requires begun.0

pub lose_running-requires-clause-lent : goal.lose_running-requires-clause-lent
lose_running-requires-clause-lent g c =
    let x = c.args.core.now in
    let n = c.args.n in
    let sound : IsSound x = sound-reached x c.policy-policy.ensures.reached in
    let ok = c.in-Ok-Run.ensures.ok in
    let begun = subst (IsStarted x n) c.in-Ok-Run.field-0-is ok.0 in
    begun.1 ∙ sym (loan-started x n sound c.requires) ∙ ap (λ (y : State). loan_at y n) (sym ok.1) ∙ ap (λ (l : Loan). loan_at c.start.new.self l.entry) (sym begun.1)
