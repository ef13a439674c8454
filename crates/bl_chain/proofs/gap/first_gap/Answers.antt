use Rattle.std.proofs.Common.{rules, ◌≡◌, ◌<◌, ◌≤◌, arith, false, true}
use Rattle.bl_chain.proofs.Exits.{silent, told}
use Rattle.bl_chain.proofs.Spans.{unbroken-more, unbroken-none, unbroken-to}
use Rattle.bl_chain.proofs.gap.first_gap.Goals as goal

pub loop-run-init : goal.loop-run-init
loop-run-init g c = λ before is. (is, unbroken-none before.seen c.args.first)

pub returns-in_err-is_missing : goal.returns-in_err-is_missing
returns-in_err-is_missing g c = record {
  same = λ before is. c.in_err-is_missing.ensures.same before (c.loop-run.invariant before is).0;
  gap = silent _ _ _ c.from_residual.ensures.1;
  fault = told _ _ _ c.from_residual.ensures.1 c.in_err-is_missing.ensures.fault;
}

pub returns-then-branch : goal.returns-then-branch
returns-then-branch g c =
    let missing : c.in_ok-is_missing.field-0 ≡ true = search rules in
    let less : c.loop-run.run < c.args.last = omega arith in
    record {
      same = λ before is. c.in_ok-is_missing.ensures.same before (c.loop-run.invariant before is).0;
      gap = λ before is. (less, c.in_ok-is_missing.ensures.missing before (c.loop-run.invariant before is).0 missing);
      fault = tt;
    }

pub loop-run-preserved : goal.loop-run-preserved
loop-run-preserved g c = λ before is.
    let invariant = c.loop-run.invariant before is in
    let missing : c.in_ok-is_missing.field-0 ≡ false = search rules in (
      c.in_ok-is_missing.ensures.same before invariant.0,
      unbroken-more before.seen c.args.first c.loop-run.run invariant.1 (c.in_ok-is_missing.ensures.there before invariant.0 missing),
    )

pub returns : goal.returns
returns g c =
    let all : c.args.last ≤ c.loop-run.run = omega arith in
    record {
      same = λ before is. (c.loop-run.invariant before is).0;
      gap = λ before is. unbroken-to before.seen c.args.first c.loop-run.run c.args.last (c.loop-run.invariant before is).1 all;
      fault = tt;
    }
