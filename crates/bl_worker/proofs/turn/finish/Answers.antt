use Rattle.std.proofs.Common.{ℕ, sym, subst}
use Rattle.bl_gate.specs.Gates.{state_seen}
use Rattle.bl_worker.specs.Turns.{IsEventOf, HasEndedAs, IsDoneOrRuleDone, IsTurnOf}
use Rattle.bl_worker.proofs.Working.{finished, closes_end}
use Rattle.bl_worker.proofs.Adding.{adds_call}
use Rattle.bl_worker.specs.declared.turn.Turn.TheVariants.{Done}
use Rattle.bl_order.specs.Machine.{Ends}
use Rattle.bl_worker.proofs.turn.finish.Goals as goal

pub returns-clause-adds : goal.returns-clause-adds
returns-clause-adds g c =
    adds_call (λ _. IsEventOf (λ (k : ℕ). IsTurnOf k (Done c.entry-n.result))) c.args.pass.now c.finish.new.pass (Ends c.args.done.entry) _ c.finish.ensures.calls c.entry-n.ensures

pub returns-clause-ran : goal.returns-clause-ran
returns-clause-ran g c =
    subst (λ (n : ℕ). HasEndedAs (state_seen c.finish.new.pass) n IsDoneOrRuleDone) (sym c.entry-n.ensures)
    (finished c.args.pass.now c.finish.new.pass c.args.done.entry _ c.finish.ensures.calls c.finish.ensures.follows c.finish.ensures.trail)

pub returns-clause-closes : goal.returns-clause-closes
returns-clause-closes g c = closes_end c.args.pass.now c.finish.new.pass c.args.done.entry _ c.finish.ensures.calls c.finish.ensures.follows c.finish.ensures.trail
