use Rattle.bl_disk.specs.File.{seen}
use Rattle.bl_chain.proofs.Exits.{refused, silent}
use Rattle.bl_chain_run.proofs.Starting.{opened}
use Rattle.bl_chain_run.proofs.start.open_journal.Goals as goal

pub returns-in_err-journal : goal.returns-in_err-journal
returns-in_err-journal g c = record {
  sound = silent _ _ _ c.from_residual.ensures.1;
  begun = silent _ _ _ c.from_residual.ensures.1;
  fault = refused _ _ c.from_residual.ensures.1;
}

pub returns-in_err-keep : goal.returns-in_err-keep
returns-in_err-keep g c = record {
  sound = silent _ _ _ c.from_residual-in_err-keep.ensures.1;
  begun = silent _ _ _ c.from_residual-in_err-keep.ensures.1;
  fault = refused _ _ c.from_residual-in_err-keep.ensures.1;
}

pub returns : goal.returns
returns g c = record {
  sound = c.in_ok-journal.ensures.sound;
  begun = λ before is.
      opened g.F.Folder.stands before c.args.run (seen (g.D.Device.now c.in_ok-journal.journal)) _ (c.in_ok-journal.ensures.journal before is)
      (c.in_ok-keep.ensures.kept before (c.in_ok-journal.ensures.same before is));
  fault = tt;
}
