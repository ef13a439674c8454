use Rattle.std.proofs.Common.{◌≡◌, ◌∷◌, ℕ, true, sym, subst}
use Rattle.bl_order.specs.Machine.{has_ended}
use Rattle.bl_gate.specs.Gates.{state_seen}
use Rattle.std.specs.Prelude.{Result}
use Rattle.bl_eval.specs.Loan.{Loan}
use Rattle.bl_order.specs.Machine.{Ends, Loses}
use Rattle.bl_worker.specs.Batches.{IsBatch, loan_of}
use Rattle.bl_worker.specs.Turns.{IsEventOf}
use Rattle.bl_worker.proofs.Adding.{adds_call}
use Rattle.bl_worker.proofs.Batching.{batch_ends}
use Rattle.bl_worker.proofs.Working.{finished, gone, settles_end, settles_loss}
use Rattle.bl_worker.proofs.batch.end.Goals as goal

pub returns-in-Ok-clause-batch : goal.returns-in-Ok-clause-batch
returns-in-Ok-clause-batch c first loans b =
    batch_ends first c.args.turn.now c.finish.new.self loans c.in-Ok.done (subst (λ (r : Result Loan Loan). IsBatch first c.args.turn.now (loan_of r ∷ loans)) c.in-Ok.is b)
    c.finish.ensures.follows c.finish.ensures.trail
    (settles_end c.args.turn.now c.finish.new.self c.in-Ok.done.entry _ c.finish.ensures.calls)
    c.finish.ensures.in_hand
    (finished c.args.turn.now c.finish.new.self c.in-Ok.done.entry _ c.finish.ensures.calls c.finish.ensures.follows c.finish.ensures.trail).ended

pub returns-in-Err-clause-batch : goal.returns-in-Err-clause-batch
returns-in-Err-clause-batch c first loans b =
    batch_ends first c.args.turn.now c.lose.new.self loans c.in-Err.unrun (subst (λ (r : Result Loan Loan). IsBatch first c.args.turn.now (loan_of r ∷ loans)) c.in-Err.is b)
    c.lose.ensures.follows c.lose.ensures.trail
    (settles_loss c.args.turn.now c.lose.new.self c.in-Err.unrun.entry _ c.lose.ensures.calls)
    c.lose.ensures.in_hand
    (gone c.args.turn.now c.lose.new.self c.in-Err.unrun.entry _ c.lose.ensures.calls c.lose.ensures.follows c.lose.ensures.trail).ended

pub returns-in-Ok-clause-adds : goal.returns-in-Ok-clause-adds
returns-in-Ok-clause-adds c = adds_call (λ _. IsEventOf (λ (n : ℕ). Unit {0})) c.args.turn.now c.finish.new.self (Ends c.in-Ok.done.entry) _ c.finish.ensures.calls tt

pub returns-in-Err-clause-adds : goal.returns-in-Err-clause-adds
returns-in-Err-clause-adds c = adds_call (λ _. IsEventOf (λ (n : ℕ). Unit {0})) c.args.turn.now c.lose.new.self (Loses c.in-Err.unrun.entry) _ c.lose.ensures.calls tt

pub returns-in-Ok-clause-ended : goal.returns-in-Ok-clause-ended
returns-in-Ok-clause-ended c =
    subst (λ (r : Result Loan Loan). has_ended (state_seen c.finish.new.self) (loan_of r).entry ≡ true) (sym c.in-Ok.is)
    (finished c.args.turn.now c.finish.new.self c.in-Ok.done.entry _ c.finish.ensures.calls c.finish.ensures.follows c.finish.ensures.trail).ended

pub returns-in-Err-clause-ended : goal.returns-in-Err-clause-ended
returns-in-Err-clause-ended c =
    subst (λ (r : Result Loan Loan). has_ended (state_seen c.lose.new.self) (loan_of r).entry ≡ true) (sym c.in-Err.is)
    (gone c.args.turn.now c.lose.new.self c.in-Err.unrun.entry _ c.lose.ensures.calls c.lose.ensures.follows c.lose.ensures.trail).ended
