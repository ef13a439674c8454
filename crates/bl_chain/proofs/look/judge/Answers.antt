use Rattle.bl_chain.proofs.Exits.{silent, told}
use Rattle.bl_chain.proofs.look.judge.Goals as goal

pub returns-in_err-setup : goal.returns-in_err-setup
returns-in_err-setup g c = record {
  same = c.in_err-setup.ensures.same;
  judged = silent _ _ _ c.from_residual.ensures.1;
  whole = silent _ _ _ c.from_residual.ensures.1;
  fault = told _ _ _ c.from_residual.ensures.1 (λ before is gapless. c.in_err-setup.ensures.fault before is gapless.is_last.has);
}

pub returns-in-Ok-Some : goal.returns-in-Ok-Some
returns-in-Ok-Some g c =
    let left = rw c.in-Ok-Some.field-0-is at c.in-Ok-Some.ensures in
    record {
      same = c.in_ok-setup.ensures.same;
      judged = λ before is. (c.in_ok-setup.setup, c.in_ok-setup.ensures.setup before is, left.0);
      whole = left.1;
      fault = tt;
    }

pub returns-in-Ok-None : goal.returns-in-Ok-None
returns-in-Ok-None g c =
    let why = rw c.in-Ok-None.field-0-is at c.in-Ok-None.ensures in
    record {
      same = c.in_ok-setup.ensures.same;
      judged = λ before is. (c.in_ok-setup.ensures.setup before is, why);
      whole = c.in_ok-setup.ensures.whole;
      fault = tt;
    }

pub returns-in-Err : goal.returns-in-Err
returns-in-Err g c = record { same = c.in_ok-setup.ensures.same; judged = tt; whole = tt; fault = λ before is gapless. tt }
