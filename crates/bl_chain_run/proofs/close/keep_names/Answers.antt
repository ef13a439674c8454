use Rattle.bl_chain.proofs.Exits.{refused, silent}
use Rattle.bl_chain_run.proofs.Taking.{kept-without}
use Rattle.bl_chain_run.proofs.close.keep_names.Goals as goal

pub returns-in_err-keep : goal.returns-in_err-keep
returns-in_err-keep g c = record {
  kept = λ before is. silent _ _ _ c.from_residual.ensures.1;
  fault = refused _ _ c.from_residual.ensures.1;
}

pub returns-in_err-remove : goal.returns-in_err-remove
returns-in_err-remove g c = record {
  kept = λ before is. silent _ _ _ c.from_residual-in_err-remove.ensures.1;
  fault = refused _ _ c.from_residual-in_err-remove.ensures.1;
}

pub returns : goal.returns
returns g c = record {
  kept = λ before is.
      let kept = c.in_ok-keep.ensures.kept before is in
      kept-without g.F.Folder.stands c.args.part _ _ before kept (c.in_ok-remove.ensures.removed kept.standing kept.is);
  fault = tt;
}
