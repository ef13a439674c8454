use Rattle.bl_chain.proofs.Exits.{silent, told}
use Rattle.bl_chain_audit.proofs.Journals.{not-closed}
use Rattle.bl_chain_audit.proofs.journal.closed.Goals as goal

pub returns-in_err-left : goal.returns-in_err-left
returns-in_err-left c = record {
  found = silent _ _ _ c.from_residual.ensures.1;
  fault = told _ _ _ c.from_residual.ensures.1 (λ events right.
      not-closed c.args.setup.now c.args.text.now c.args.run (λ line wrong. c.one_verdict.ensures c.args.setup.now c.args.text.now events line right wrong)
      c.in_err-left.field-0.0 c.in_err-left.ensures.fault);
}

pub returns : goal.returns
returns c = record { found = (c.in_ok-left.left, c.in_ok-left.ensures.stands); fault = tt }
