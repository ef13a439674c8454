use Rattle.std.proofs.Common.{◌∙◌, sym, inl, true≢false}
use Rattle.bl_folder.specs.Names.{setup_of}
use Rattle.bl_chain.proofs.Exits.{silent, told}
use Rattle.bl_chain.proofs.Spans.{miss-trail, none-where, not-missing}
use Rattle.bl_chain.proofs.gap.is_missing.Goals as goal

pub returns-in_err-setup : goal.returns-in_err-setup
returns-in_err-setup g c = record {
  same = c.in_err-setup.ensures.same;
  missing = silent _ _ _ c.from_residual.ensures.1;
  there = silent _ _ _ c.from_residual.ensures.1;
  fault = told _ _ _ c.from_residual.ensures.1 c.in_err-setup.ensures.fault;
}

pub returns-in_err-trail : goal.returns-in_err-trail
returns-in_err-trail g c = record {
  same = λ before is. c.in_err-trail.ensures.same before (c.in_ok-setup.ensures.same before is);
  missing = silent _ _ _ c.from_residual-in_err-trail.ensures.1;
  there = silent _ _ _ c.from_residual-in_err-trail.ensures.1;
  fault = told _ _ _ c.from_residual-in_err-trail.ensures.1 c.in_err-trail.ensures.fault;
}

pub returns-then-setup : goal.returns-then-setup
returns-then-setup g c = record {
  same = λ before is. c.in_ok-trail.ensures.same before (c.in_ok-setup.ensures.same before is);
  missing = λ before is t.
      let trail = rw c.trail.ensures at (c.in_ok-trail.ensures.there before (c.in_ok-setup.ensures.same before is)) in
      miss-trail before.seen c.args.run c.in_ok-trail.trail trail t;
  there = λ before is f.
      let setup = rw c.setup.ensures at (c.in_ok-setup.ensures.there before is) in
      let trail = rw c.trail.ensures at (c.in_ok-trail.ensures.there before (c.in_ok-setup.ensures.same before is)) in
      (setup.0 c.if-setup.true, trail.0 (not-missing c.in_ok-trail.trail f));
  fault = tt;
}

pub returns : goal.returns
returns g c = record {
  same = λ before is. c.in_ok-trail.ensures.same before (c.in_ok-setup.ensures.same before is);
  missing = λ before is t.
      let setup = rw c.setup.ensures at (c.in_ok-setup.ensures.there before is) in
      inl (none-where (before.seen (setup_of c.args.run)) (λ some. true≢false (sym (setup.1 some) ∙ c.if-setup.false)));
  there = λ before is f. absurd (true≢false f);
  fault = tt;
}
