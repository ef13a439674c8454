use Rattle.std.proofs.Common.{◌≡◌, ℕ, true, refl, subst}
use Rattle.bl_order.specs.Machine.{has_ended}
use Rattle.bl_gate.specs.Gates.{state_seen}
use Rattle.bl_worker.specs.Hands.{Holds}
use Rattle.bl_worker.specs.declared.hand.Hand.{Hand}
use Rattle.bl_order.specs.Machine.{Ends, Loses}
use Rattle.bl_worker.specs.Turns.{IsEventOf}
use Rattle.bl_worker.proofs.Adding.{adds_call}
use Rattle.bl_worker.proofs.Working.{finished, gone, settles_end, settles_loss}
use Rattle.bl_worker.proofs.hand.put_down.Goals as goal

pub returns-in-Ran-clause-adds : goal.returns-in-Ran-clause-adds
returns-in-Ran-clause-adds c =
    adds_call (λ _. IsEventOf (Holds c.args.hand)) c.args.turn.now c.finish.new.self (Ends c.in-Ran.done.entry) _ c.finish.ensures.calls (rw c.in-Ran.is refl)

pub returns-in-Ran-clause-settles : goal.returns-in-Ran-clause-settles
returns-in-Ran-clause-settles c = settles_end c.args.turn.now c.finish.new.self c.in-Ran.done.entry _ c.finish.ensures.calls

pub returns-in-Ran-clause-ended : goal.returns-in-Ran-clause-ended
returns-in-Ran-clause-ended c n held =
    subst (λ (k : ℕ). has_ended (state_seen c.finish.new.self) k ≡ true) (subst (λ (hand : Hand). Holds hand n) c.in-Ran.is held)
    (finished c.args.turn.now c.finish.new.self c.in-Ran.done.entry _ c.finish.ensures.calls c.finish.ensures.follows c.finish.ensures.trail).ended

pub returns-in-Failed-clause-adds : goal.returns-in-Failed-clause-adds
returns-in-Failed-clause-adds c =
    adds_call (λ _. IsEventOf (Holds c.args.hand)) c.args.turn.now c.lose.new.self (Loses c.in-Failed.unrun.entry) _ c.lose.ensures.calls (rw c.in-Failed.is refl)

pub returns-in-Failed-clause-settles : goal.returns-in-Failed-clause-settles
returns-in-Failed-clause-settles c = settles_loss c.args.turn.now c.lose.new.self c.in-Failed.unrun.entry _ c.lose.ensures.calls

pub returns-in-Failed-clause-ended : goal.returns-in-Failed-clause-ended
returns-in-Failed-clause-ended c n held =
    subst (λ (k : ℕ). has_ended (state_seen c.lose.new.self) k ≡ true) (subst (λ (hand : Hand). Holds hand n) c.in-Failed.is held)
    (gone c.args.turn.now c.lose.new.self c.in-Failed.unrun.entry _ c.lose.ensures.calls c.lose.ensures.follows c.lose.ensures.trail).ended
