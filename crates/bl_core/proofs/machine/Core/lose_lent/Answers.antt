use Rattle.std.proofs.Common.{ℕ, sym, ap, ◌∙◌}
use Rattle.bl_order.specs.Machine.{change, runs, Loses}
use Rattle.bl_eval.specs.Loan.{Loan}
use Rattle.bl_core.proofs.Lent.{grants-here}
use Rattle.bl_core.proofs.machine.Core.lose_lent.Goals as goal

pub lose_granted-requires-clause-running : goal.lose_granted-requires-clause-running
lose_granted-requires-clause-running c =
    ap (runs c.args.self.now) (sym (ap (λ (l : Loan). l.entry) c.into_parts-entry.ensures.loan)) ∙ c.requires.running

pub lose_granted-requires-clause-lent : goal.lose_granted-requires-clause-lent
lose_granted-requires-clause-lent c =
    grants-here c.args.self.now c.args.unrun c.into_parts-entry.result.entry (ap (λ (l : Loan). l.entry) c.into_parts-entry.ensures.loan)
    c.into_parts-entry.result.grants c.requires.lent (ap (λ (l : Loan). l.inputs) c.into_parts-entry.ensures.loan) c.into_parts-entry.ensures.grants

pub returns : goal.returns
returns c =
    c.lose_granted.ensures ∙ ap (λ (m : ℕ). change c.args.self.now (Loses m)) (sym (ap (λ (l : Loan). l.entry) c.into_parts-entry.ensures.loan))
