use Rattle.std.proofs.Common.{inl, arith, subst}
use Rattle.bl_folder.specs.Standing.{IsSpanOf}
use Rattle.bl_folder.specs.declared.name.FileKind.TheVariants.{Trail}
use Rattle.bl_chain.proofs.Exits.{both, err-so, of-call, silent, told}
use Rattle.bl_chain.proofs.Reasons.{no-setups-refused}
use Rattle.bl_chain.proofs.Spans.{gap-behind, last-before, no-gap, none-behind}
use Rattle.bl_chain.proofs.gap.last_run.Goals as goal

pub returns-in_err-setups : goal.returns-in_err-setups
returns-in_err-setups g c = record {
  same = c.in_err-setups.ensures.same;
  last = silent _ _ _ c.from_residual.ensures.1;
  fault = told _ _ _ c.from_residual.ensures.1 (λ before is. no-setups-refused before.seen c.in_err-setups.field-0.0 (c.in_err-setups.ensures.fault before is));
}

pub returns-in_err-trails : goal.returns-in_err-trails
returns-in_err-trails g c = record {
  same = λ before is. c.in_err-trails.ensures.same before (c.in_ok-setups.ensures.same before is);
  last = silent _ _ _ c.from_residual-in_err-trails.ensures.1;
  fault = told _ _ _ c.from_residual-in_err-trails.ensures.1 (λ before is. of-call c.in_err-trails.field-0.0 c.in_err-trails.ensures.fault before.seen);
}

pub returns-in_default : goal.returns-in_default
returns-in_default g c = record {
  same = λ before is. c.last_of.ensures.same before (c.in_ok-trails.ensures.same before (c.in_ok-setups.ensures.same before is));
  last = both c.last_of.result c.last_of.ensures.last c.last_of.ensures.unbroken (λ last e u before is.
      let there = c.in_ok-setups.ensures.same before is in
      last-before before.seen c.in_ok-setups.setups last e (c.in_ok-setups.ensures.setups before is) (u before (c.in_ok-trails.ensures.same before there))
      (λ run less. (rw c.in_default.is at (c.in_ok-trails.ensures.span before there)) run));
  fault = err-so c.last_of.result c.last_of.ensures.fault (λ fault f before is.
      f before (c.in_ok-trails.ensures.same before (c.in_ok-setups.ensures.same before is)) (c.in_ok-setups.ensures.setups before is));
}

pub returns-then-trails-setups : goal.returns-then-trails-setups
returns-then-trails-setups g c = record {
  same = λ before is. c.in_ok-trails.ensures.same before (c.in_ok-setups.ensures.same before is);
  last = tt;
  fault = λ before is.
      let trails = subst (IsSpanOf before.seen Trail) c.in-Some.is (c.in_ok-trails.ensures.span before (c.in_ok-setups.ensures.same before is)) in
      inl (gap-behind before.seen c.in_ok-setups.setups c.in-Some.trails (c.in_ok-setups.ensures.setups before is) trails (omega arith));
}

pub returns-then-covers : goal.returns-then-covers
returns-then-covers g c = record {
  same = λ before is. c.in_ok-trails.ensures.same before (c.in_ok-setups.ensures.same before is);
  last = λ before is.
      let setups = c.in_ok-setups.ensures.setups before is in
      let trails = subst (IsSpanOf before.seen Trail) c.in-Some.is (c.in_ok-trails.ensures.span before (c.in_ok-setups.ensures.same before is)) in
      no-gap before.seen c.in_ok-setups.setups setups (c.covers.ensures c.if-covers.true before.seen setups trails)
      (none-behind before.seen c.in-Some.trails c.in_ok-setups.setups.last trails (omega arith));
  fault = tt;
}

pub returns : goal.returns
returns g c = record {
  same = λ before is. c.last_of-2.ensures.same before (c.in_ok-trails.ensures.same before (c.in_ok-setups.ensures.same before is));
  last = both c.last_of-2.result c.last_of-2.ensures.last c.last_of-2.ensures.unbroken (λ last e u before is.
      let there = c.in_ok-setups.ensures.same before is in
      let trails = subst (IsSpanOf before.seen Trail) c.in-Some.is (c.in_ok-trails.ensures.span before there) in
      last-before before.seen c.in_ok-setups.setups last e (c.in_ok-setups.ensures.setups before is) (u before (c.in_ok-trails.ensures.same before there))
      (none-behind before.seen c.in-Some.trails c.in_ok-setups.setups.last trails (omega arith)));
  fault = err-so c.last_of-2.result c.last_of-2.ensures.fault (λ fault f before is.
      f before (c.in_ok-trails.ensures.same before (c.in_ok-setups.ensures.same before is)) (c.in_ok-setups.ensures.setups before is));
}
