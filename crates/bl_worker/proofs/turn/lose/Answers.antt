use Rattle.std.proofs.Common.{ℕ, sym, subst}
use Rattle.bl_gate.specs.Gates.{state_seen}
use Rattle.bl_worker.specs.Turns.{IsEventOf, HasEndedAs, IsLost, IsTurnOf}
use Rattle.bl_worker.proofs.Working.{gone, closes_loss}
use Rattle.bl_worker.proofs.Adding.{adds_call}
use Rattle.bl_worker.specs.declared.turn.Turn.TheVariants.{Lost}
use Rattle.bl_order.specs.Machine.{Loses}
use Rattle.bl_worker.proofs.turn.lose.Goals as goal

pub returns-clause-adds : goal.returns-clause-adds
returns-clause-adds g c =
    adds_call (λ _. IsEventOf (λ (k : ℕ). IsTurnOf k (Lost c.entry-n.result))) c.args.pass.now c.lose.new.pass (Loses c.args.unrun.entry) _ c.lose.ensures.calls c.entry-n.ensures

pub returns-clause-ran : goal.returns-clause-ran
returns-clause-ran g c =
    subst (λ (n : ℕ). HasEndedAs (state_seen c.lose.new.pass) n IsLost) (sym c.entry-n.ensures)
    (gone c.args.pass.now c.lose.new.pass c.args.unrun.entry _ c.lose.ensures.calls c.lose.ensures.follows c.lose.ensures.trail)

pub returns-clause-closes : goal.returns-clause-closes
returns-clause-closes g c = closes_loss c.args.pass.now c.lose.new.pass c.args.unrun.entry _ c.lose.ensures.calls c.lose.ensures.follows c.lose.ensures.trail
