use Rattle.std.proofs.Common.{ℕ, sym, subst}
use Rattle.bl_gate.specs.Gates.{state_seen}
use Rattle.bl_worker.specs.Turns.{IsEventOf, HasEndedAs, IsLost, IsTurnOf}
use Rattle.bl_worker.proofs.Adding.{adds_call}
use Rattle.bl_worker.specs.declared.turn.Turn.TheVariants.{Lost}
use Rattle.bl_order.specs.Machine.{Loses}
use Rattle.bl_worker.proofs.Working.{gone, settles_loss}
use Rattle.bl_worker.proofs.turn.lose_ready.Goals as goal

pub returns-in-Ok-clause-worked : goal.returns-in-Ok-clause-worked
returns-in-Ok-clause-worked c =
    subst (λ (n : ℕ). HasEndedAs (state_seen c.lose_ready.new.self) n IsLost) (sym c.entry-n.ensures)
    (gone c.args.turn.now c.lose_ready.new.self c.args.starved _ c.in-Ok.ensures.ok c.lose_ready.ensures.follows c.lose_ready.ensures.trail)

pub returns-in-Ok-clause-settles : goal.returns-in-Ok-clause-settles
returns-in-Ok-clause-settles c = settles_loss c.args.turn.now c.lose_ready.new.self c.args.starved _ c.in-Ok.ensures.ok

pub returns-in-Ok-clause-adds : goal.returns-in-Ok-clause-adds
returns-in-Ok-clause-adds c =
    adds_call (λ _. IsEventOf (λ (k : ℕ). IsTurnOf k (Lost c.entry-n.result))) c.args.turn.now c.lose_ready.new.self (Loses c.args.starved) _ c.in-Ok.ensures.ok c.entry-n.ensures
