use Rattle.std.proofs.Common.{◌≤◌, ◌<◌, arith}
use Rattle.bl_chain.proofs.Exits.{refused, silent}
use Rattle.bl_chain_run.proofs.Starting.{cleared-one, cleared-two}
use Rattle.bl_chain_run.proofs.start.clear.Goals as goal

pub returns-in_err-keep : goal.returns-in_err-keep
returns-in_err-keep g c = record {
  cleared = λ before is. silent _ _ _ c.from_residual.ensures.1;
  fault = refused _ _ c.from_residual.ensures.1;
}

pub returns-in_err-remove : goal.returns-in_err-remove
returns-in_err-remove g c = record {
  cleared = λ before is. silent _ _ _ c.from_residual-in_err-remove.ensures.1;
  fault = refused _ _ c.from_residual-in_err-remove.ensures.1;
}

pub returns-then-run-le1 : goal.returns-then-run-le1
returns-then-run-le1 g c =
    let first : c.args.run ≤ 1 = omega arith in
    record {
      cleared = λ before is.
          let kept = c.in_ok-keep.ensures.kept before is in
          let removed = rw c.setup_part.ensures at (c.in_ok-remove.ensures.removed kept.standing kept.is) in
          cleared-one g.F.Folder.stands before c.args.run _ _ first kept removed;
      fault = tt;
    }

pub returns-in_err-remove-2 : goal.returns-in_err-remove-2
returns-in_err-remove-2 g c = record {
  cleared = λ before is. silent _ _ _ c.from_residual-in_err-remove-2.ensures.1;
  fault = refused _ _ c.from_residual-in_err-remove-2.ensures.1;
}

pub returns : goal.returns
returns g c =
    let more : 1 < c.args.run = omega arith in
    record {
      cleared = λ before is.
          let kept = c.in_ok-keep.ensures.kept before is in
          let removed = rw c.setup_part.ensures at (c.in_ok-remove.ensures.removed kept.standing kept.is) in
          let taken = rw c.trail_part.ensures at (c.in_ok-remove-2.ensures.removed removed.standing removed.is) in
          cleared-two g.F.Folder.stands before c.args.run _ _ _ more kept removed taken;
      fault = tt;
    }
