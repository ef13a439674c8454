use Rattle.std.proofs.Common.{◌≡◌, ◌≢◌, arith, ap, sym, ◌∙◌, subst}
use Rattle.bl_eval.specs.Loan.{Loan}
use Rattle.bl_gate.specs.Gates.{PassView, HasLoanInHand}
use Rattle.bl_gate_tests.proofs.several.two_turns_of_several_calls.Goals as goal

-- what was started in the first turn is in hand in the second
pub finish-requires : goal.finish-requires
finish-requires g c =
    subst (HasLoanInHand c.turn-turn-2.result) (sym c.done_of-second.ensures)
    (c.turn-turn-2.ensures.in_hand c.begin-second.result (subst (λ (p : PassView). HasLoanInHand p c.begin-second.result) (sym c.leave-pass.ensures) c.begin-second.ensures.held))

pub finish-requires-2 : goal.finish-requires-2
finish-requires-2 g c =
    let one : c.done_of-first.result.entry ≡ 0 = ap (λ (l : Loan). l.entry) c.done_of-first.ensures ∙ c.begin-first.ensures.entry in
    let two : c.done_of-second.result.entry ≡ 1 = ap (λ (l : Loan). l.entry) c.done_of-second.ensures ∙ c.begin-second.ensures.entry in
    let apart : c.done_of-first.result.entry ≢ c.done_of-second.result.entry = omega arith in
    c.finish.ensures.in_hand c.done_of-first.result apart
    (subst (HasLoanInHand c.turn-turn-2.result) (sym c.done_of-first.ensures)
    (c.turn-turn-2.ensures.in_hand c.begin-first.result
    (subst (λ (p : PassView). HasLoanInHand p c.begin-first.result) (sym c.leave-pass.ensures) (c.begin-second.ensures.in_hand c.begin-first.result c.begin-first.ensures.held))))
