use Rattle.bl_chain.proofs.Exits.{silent, told}
use Rattle.bl_chain_audit.proofs.Reasons.{no-run, noted-run, other-sum, unread}
use Rattle.bl_chain_audit.proofs.noted.begin.Goals as goal

pub returns-in_err-setup : goal.returns-in_err-setup
returns-in_err-setup g c = record {
  same = c.in_err-setup.ensures.same;
  setup = silent _ _ _ c.from_residual.ensures.1;
  sum = silent _ _ _ c.from_residual.ensures.1;
  whole = silent _ _ _ c.from_residual.ensures.1;
  fault = told _ _ _ c.from_residual.ensures.1 (λ before is beginning.
      unread before.seen c.args.noted c.args.first c.in_err-setup.field-0.0 beginning (c.in_err-setup.ensures.fault before is));
}

-- the noted run has no setup
pub returns-in_default : goal.returns-in_default
returns-in_default g c = record {
  same = c.in_ok-setup.ensures.same;
  setup = tt;
  sum = tt;
  whole = tt;
  fault = λ before is beginning.
      no-run before.seen c.args.noted c.args.first beginning (rw c.in_default.is at (c.in_ok-setup.ensures.setup before is));
}

pub returns-then-has : goal.returns-then-has
returns-then-has g c = record {
  same = c.in_ok-setup.ensures.same;
  setup = λ before is. rw c.in-Some.is at (c.in_ok-setup.ensures.setup before is);
  sum = c.in-Ok.ensures.0 c.if-has.true;
  whole = rw c.in-Some.is at c.in_ok-setup.ensures.whole;
  fault = tt;
}

-- it has another one
pub returns-else-has : goal.returns-else-has
returns-else-has g c = record {
  same = c.in_ok-setup.ensures.same;
  setup = tt;
  sum = tt;
  whole = tt;
  fault = λ before is beginning.
      let other = other-sum c.args.noted c.in-Some.setup c.in-Ok.has c.in-Ok.ensures c.if-has.false in (
        noted-run before.seen c.args.noted c.args.first c.in-Some.setup beginning other,
        (c.in-Some.setup, rw c.in-Some.is at (c.in_ok-setup.ensures.setup before is), other),
      );
}

pub returns-in-Err : goal.returns-in-Err
returns-in-Err g c = record { same = c.in_ok-setup.ensures.same; setup = tt; sum = tt; whole = tt; fault = λ before is beginning. tt }
