use Rattle.std.proofs.Common.{◌≡◌, sym, ap, subst, ◌∙◌}
use Rattle.bl_order.specs.Machine.{State, Starts, change, runs}
use Rattle.bl_core.specs.Answers.{IsStarted, loan_at}
use Rattle.bl_eval.specs.Loan.{Loan}
use Rattle.bl_hall.specs.Chronicle.{state_now}
use Rattle.bl_session.specs.Pages.{HasEnded}
use Rattle.bl_session.proofs.PageLaws.{state_next, loan_started, had_run}
use Rattle.bl_session.proofs.RunLaws.{next_runs}
use Rattle.bl_session.proofs.entries.run_place.Goals as goal

pub end-requires-clause-running : goal.end-requires-clause-running
end-requires-clause-running c =
    let h = c.args.hall.now in
    let x = state_now h in
    let n = c.args.n in
    let ok = c.in-Ok-Run.ensures.ok in
    let begun = subst (IsStarted x n) c.in-Ok-Run.field-0-is ok.0 in
    let at : state_now c.start.new.self ≡ change x (Starts n) = ap state_now ok.1 ∙ state_next h (Starts n) in
    ap (λ (l : Loan). runs (state_now c.start.new.self) l.entry) begun.1 ∙ ap (λ (y : State). runs y n) at ∙ next_runs x n c.requires.ran c.requires.ready.there ∙ begun.0

pub end-requires-clause-lent : goal.end-requires-clause-lent
end-requires-clause-lent c =
    let h = c.args.hall.now in
    let x = state_now h in
    let n = c.args.n in
    let ok = c.in-Ok-Run.ensures.ok in
    let begun = subst (IsStarted x n) c.in-Ok-Run.field-0-is ok.0 in
    let at : state_now c.start.new.self ≡ change x (Starts n) = ap state_now ok.1 ∙ state_next h (Starts n) in
    begun.1 ∙ sym (loan_started x n c.requires.ready) ∙ ap (λ (y : State). loan_at y n) (sym at) ∙ ap (λ (l : Loan). loan_at (state_now c.start.new.self) l.entry) (sym begun.1)

pub returns-in-Ok-Run : goal.returns-in-Ok-Run
returns-in-Ok-Run c =
    let h = c.args.hall.now in
    let x = state_now h in
    let n = c.args.n in
    let ok = c.in-Ok-Run.ensures.ok in
    let begun = subst (IsStarted x n) c.in-Ok-Run.field-0-is ok.0 in
    had_run h n c.requires.ran c.requires.ready.there c.start.new.self c.end.new.hall ok.1 begun.0
    (subst (λ k. HasEnded k c.start.new.self c.end.new.hall) (ap (λ (l : Loan). l.entry) begun.1) c.end.ensures)
