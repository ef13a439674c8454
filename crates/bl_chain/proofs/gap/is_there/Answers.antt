use Rattle.std.proofs.Common.{sym}
use Rattle.bl_chain.proofs.Exits.{of-call, silent, told}
use Rattle.bl_chain.proofs.Looking.{is-none, is-some}
use Rattle.bl_chain.proofs.gap.is_there.Goals as goal

pub returns-in_err-bytes : goal.returns-in_err-bytes
returns-in_err-bytes g c = record {
  same = c.in_err-bytes.ensures.same;
  there = silent _ _ _ c.from_residual.ensures.1;
  fault = told _ _ _ c.from_residual.ensures.1 (of-call c.in_err-bytes.field-0.0 c.in_err-bytes.ensures.fault);
}

pub returns-in_default : goal.returns-in_default
returns-in_default g c = record {
  same = c.in_ok-bytes.ensures.same;
  there = λ before is. let e = rw c.in_default.is at (c.in_ok-bytes.ensures.bytes before is) in is-none (before.seen c.args.file) (sym e);
  fault = tt;
}

pub returns : goal.returns
returns g c = record {
  same = c.in_ok-bytes.ensures.same;
  there = λ before is. let e = rw c.in-Some.is at (c.in_ok-bytes.ensures.bytes before is) in is-some (before.seen c.args.file) _ (sym e);
  fault = tt;
}
