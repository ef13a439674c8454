use Rattle.std.proofs.Common.{◌≡◌, ◌≤◌, ◌<◌, ◌+◌, arith, suc, subst}
use Rattle.bl_chain.proofs.Exits.{silent, told}
use Rattle.bl_chain_audit.specs.Closed.{AreClosedBefore}
use Rattle.bl_chain_audit.proofs.Ends.{gap-end, looked-at, no-trail, up-to-end}
use Rattle.bl_chain_audit.proofs.Reasons.{no-setups}
use Rattle.bl_chain_audit.proofs.Steps.{none-before, one-more}
use Rattle.bl_chain_audit.proofs.audit.audit.Goals as goal

pub returns-in_err-setups : goal.returns-in_err-setups
returns-in_err-setups g c = record {
  same = c.in_err-setups.ensures.same;
  true_chain = silent _ _ _ c.from_residual.ensures.1;
  whole = silent _ _ _ c.from_residual.ensures.1;
  fault = told _ _ _ c.from_residual.ensures.1
      (λ before is. no-setups before.seen c.args.noted c.in_err-setups.field-0.0 (c.in_err-setups.ensures.fault before is));
}

pub returns-in_err-end : goal.returns-in_err-end
returns-in_err-end g c = record {
  same = λ before is. c.in_err-end.ensures.same before (c.in_ok-setups.ensures.same before is);
  true_chain = silent _ _ _ c.from_residual-in_err-end.ensures.1;
  whole = silent _ _ _ c.from_residual-in_err-end.ensures.1;
  fault = told _ _ _ c.from_residual-in_err-end.ensures.1 (λ before is.
      c.in_err-end.ensures.fault before (c.in_ok-setups.ensures.same before is) (c.first_run-first.ensures before.seen (c.in_ok-setups.ensures.setups before is)));
}

pub returns-in_err-stood : goal.returns-in_err-stood
returns-in_err-stood g c = record {
  same = λ before is. c.in_err-stood.ensures.same before (c.in_ok-end.ensures.same before (c.in_ok-setups.ensures.same before is));
  true_chain = silent _ _ _ c.from_residual-in_err-stood.ensures.1;
  whole = silent _ _ _ c.from_residual-in_err-stood.ensures.1;
  fault = told _ _ _ c.from_residual-in_err-stood.ensures.1 (λ before is.
      c.in_err-stood.ensures.fault before (c.in_ok-end.ensures.same before (c.in_ok-setups.ensures.same before is))
      (c.first_run-first.ensures before.seen (c.in_ok-setups.ensures.setups before is)));
}

pub loop-run-init : goal.loop-run-init
loop-run-init g c = record {
  closed = λ before is.
      let setups = c.in_ok-setups.ensures.setups before is in
      let beginning = c.first_run-first.ensures before.seen setups in
      let there = c.in_ok-setups.ensures.same before is in
      let after = c.in_ok-end.ensures.same before there in (
        c.in_ok-stood.ensures.same before after,
        setups,
        c.in_ok-end.ensures.end before there,
        none-before before.seen c.args.noted c.first_run-first.result c.in_ok-stood.stood beginning (c.in_ok-stood.ensures.setup before after) c.in_ok-stood.ensures.sum,
      );
  whole = c.in_ok-stood.ensures.whole;
}

pub returns-in_err-stood-2 : goal.returns-in_err-stood-2
returns-in_err-stood-2 g c =
    let up : c.first_run-first.result ≤ c.loop-run.run = omega arith in
    record {
      same = λ before is. c.in_err-stood-2.ensures.same before (c.loop-run.invariant.closed before is).0;
      true_chain = silent _ _ _ c.from_residual-in_err-stood-2.ensures.1;
      whole = silent _ _ _ c.from_residual-in_err-stood-2.ensures.1;
      fault = told _ _ _ c.from_residual-in_err-stood-2.ensures.1 (λ before is.
          let so_far = c.loop-run.invariant.closed before is in
          c.in_err-stood-2.ensures.fault before c.args.noted so_far.0 (c.first_run-first.result, up, so_far.2) so_far.3);
    }

pub loop-run-preserved : goal.loop-run-preserved
loop-run-preserved g c =
    let up : c.first_run-first.result ≤ c.loop-run.run = omega arith in
    let next : suc c.loop-run.run ≡ c.loop-run.run + 1 = omega arith in
    record {
      closed = λ before is.
          let so_far = c.loop-run.invariant.closed before is in
          let closed = c.in_ok-stood-2.ensures.closed before so_far.0 (c.first_run-first.result, up, so_far.2) in (
            c.in_ok-stood-2.ensures.same before so_far.0,
            so_far.1,
            so_far.2,
            subst (λ run. AreClosedBefore before.seen c.args.noted run c.in_ok-stood-2.stood) next
                (one-more before.seen c.args.noted c.loop-run.run c.loop-run.stood c.in_ok-stood-2.stood so_far.3 closed.0 closed.1),
          );
      whole = c.in_ok-stood-2.ensures.whole;
    }

pub returns-then-setups-end : goal.returns-then-setups-end
returns-then-setups-end g c =
    let less : c.in_ok-end.end < c.in_ok-setups.setups.last = omega arith in
    record {
      same = λ before is. (c.loop-run.invariant.closed before is).0;
      true_chain = tt;
      whole = tt;
      fault = λ before is.
          let all = c.loop-run.invariant.closed before is in
          let beginning = c.first_run-first.ensures before.seen all.1 in (
            looked-at before.seen c.args.noted c.first_run-first.result c.in_ok-end.end beginning all.2.up,
            gap-end before.seen c.in_ok-setups.setups c.first_run-first.result c.in_ok-end.end all.1 all.2 less,
          );
    }

pub returns-in-Ok : goal.returns-in-Ok
returns-in-Ok g c =
    let to : c.in_ok-setups.setups.last ≤ c.in_ok-end.end = omega arith in
    record {
      same = λ before is. c.in-Ok.ensures.same before (c.loop-run.invariant.closed before is).0;
      true_chain = λ before is.
          let all = c.loop-run.invariant.closed before is in
          let at : c.loop-run.run ≡ c.in_ok-end.end = omega (arith, all.2.up) in
          record {
            first = c.first_run-first.ensures before.seen all.1;
            closed = subst (λ run. AreClosedBefore before.seen c.args.noted run c.loop-run.stood) at all.3;
            trails = all.2.all;
            setups = up-to-end before.seen c.in_ok-setups.setups c.in_ok-end.end all.1 to;
            journal = c.in-Ok.ensures.found before all.0;
          };
      whole = c.loop-run.invariant.whole;
      fault = tt;
    }

pub returns-in-Err : goal.returns-in-Err
returns-in-Err g c = record {
  same = λ before is. c.in-Err.ensures.same before (c.loop-run.invariant.closed before is).0;
  true_chain = tt;
  whole = tt;
  fault = λ before is.
      let all = c.loop-run.invariant.closed before is in
      let at : c.loop-run.run ≡ c.in_ok-end.end = omega (arith, all.2.up) in
      c.in-Err.ensures.fault before c.args.noted all.0 (subst (λ run. AreClosedBefore before.seen c.args.noted run c.loop-run.stood) at all.3)
      (no-trail before.seen c.first_run-first.result c.in_ok-end.end all.2);
}
