use Rattle.std.proofs.Common.{◌≡◌, ◌+◌, suc, arith, subst}
use Rattle.bl_folder.specs.Standing.{IsSpanOf}
use Rattle.bl_folder.specs.declared.name.FileKind.TheVariants.{Trail}
use Rattle.bl_chain.proofs.Exits.{silent, told}
use Rattle.bl_chain_audit.proofs.Ends.{end-before, end-none, end-span, room, stray}
use Rattle.bl_chain_audit.proofs.Reasons.{of-call}
use Rattle.bl_chain_audit.proofs.audit.end_run.Goals as goal

pub returns-in_err-trails : goal.returns-in_err-trails
returns-in_err-trails g c = record {
  same = c.in_err-trails.ensures.same;
  end = silent _ _ _ c.from_residual.ensures.1;
  fault = told _ _ _ c.from_residual.ensures.1 (λ before is beginning. of-call before.seen c.args.noted c.in_err-trails.field-0.0 c.in_err-trails.ensures.fault);
}

pub returns-in_default : goal.returns-in_default
returns-in_default g c = record {
  same = c.in_ok-trails.ensures.same;
  end = λ before is. end-none before.seen c.args.first (rw c.in_default.is at (c.in_ok-trails.ensures.span before is));
  fault = tt;
}

pub returns-then-is_stray : goal.returns-then-is_stray
returns-then-is_stray g c = record {
  same = c.in_ok-trails.ensures.same;
  end = tt;
  fault = λ before is beginning.
      let trails = subst (IsSpanOf before.seen Trail) c.in-Some.is (c.in_ok-trails.ensures.span before is) in
      let why = c.is_stray.ensures c.if-is_stray.true in
      stray before.seen c.args.noted c.args.first c.in-Some.trails why.0 beginning trails why.1;
}

pub returns-then-trails-first : goal.returns-then-trails-first
returns-then-trails-first g c = record {
  same = c.in_ok-trails.ensures.same;
  end = λ before is.
      let trails = subst (IsSpanOf before.seen Trail) c.in-Some.is (c.in_ok-trails.ensures.span before is) in
      end-before before.seen c.args.first c.in-Some.trails trails (omega arith);
  fault = tt;
}

pub returns-then-trails-gt-MOST_RUN : goal.returns-then-trails-gt-MOST_RUN
returns-then-trails-gt-MOST_RUN g c = record {
  same = c.in_ok-trails.ensures.same;
  end = tt;
  fault = λ before is beginning.
      let trails = subst (IsSpanOf before.seen Trail) c.in-Some.is (c.in_ok-trails.ensures.span before is) in
      room before.seen Trail c.in-Some.trails trails (omega arith);
}

pub returns : goal.returns
returns g c =
    let next : c.in-Some.trails.last + 1 ≡ suc c.in-Some.trails.last = omega arith in
    record {
      same = c.in_ok-trails.ensures.same;
      end = λ before is.
          let trails = subst (IsSpanOf before.seen Trail) c.in-Some.is (c.in_ok-trails.ensures.span before is) in
          end-span before.seen c.args.first (c.in-Some.trails.last + 1) c.in-Some.trails trails (omega arith) next;
      fault = tt;
    }
