use Rattle.std.proofs.Common.{inl, refl}
use Rattle.bl_chain.proofs.Exits.{silent, told}
use Rattle.bl_chain.proofs.Spans.{gap-before}
use Rattle.bl_chain.proofs.gap.last_of.Goals as goal

pub returns-in_err-run : goal.returns-in_err-run
returns-in_err-run g c = record {
  same = c.in_err-run.ensures.same;
  last = silent _ _ _ c.from_residual.ensures.1;
  unbroken = silent _ _ _ c.from_residual.ensures.1;
  fault = told _ _ _ c.from_residual.ensures.1 (λ before is span. c.in_err-run.ensures.fault before.seen);
}

pub returns-in-Some : goal.returns-in-Some
returns-in-Some g c = record {
  same = c.in_ok-run.ensures.same;
  last = tt;
  unbroken = tt;
  fault = λ before is span.
      let gap = rw c.in-Some.is at (c.in_ok-run.ensures.gap before is) in
      inl (gap-before before.seen c.args.setups c.in-Some.run' span gap.0 gap.1);
}

pub returns-in-None : goal.returns-in-None
returns-in-None g c = record {
  same = c.in_ok-run.ensures.same;
  last = refl;
  unbroken = λ before is. rw c.in-None.is at (c.in_ok-run.ensures.gap before is);
  fault = tt;
}
