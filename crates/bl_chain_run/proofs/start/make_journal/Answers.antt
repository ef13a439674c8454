use Rattle.bl_chain.proofs.Exits.{refused, silent}
use Rattle.bl_chain_run.proofs.Starting.{made}
use Rattle.bl_chain_run.proofs.start.make_journal.Goals as goal

pub returns-in_err-journal : goal.returns-in_err-journal
returns-in_err-journal g c = record {
  sound = silent _ _ _ c.from_residual.ensures.1;
  empty = silent _ _ _ c.from_residual.ensures.1;
  begun = silent _ _ _ c.from_residual.ensures.1;
  fault = refused _ _ c.from_residual.ensures.1;
}

pub returns-in_err-keep : goal.returns-in_err-keep
returns-in_err-keep g c = record {
  sound = silent _ _ _ c.from_residual-in_err-keep.ensures.1;
  empty = silent _ _ _ c.from_residual-in_err-keep.ensures.1;
  begun = silent _ _ _ c.from_residual-in_err-keep.ensures.1;
  fault = refused _ _ c.from_residual-in_err-keep.ensures.1;
}

pub returns : goal.returns
returns g c = record {
  sound = c.in_ok-journal.ensures.sound;
  empty = c.in_ok-journal.ensures.empty;
  begun = λ before is none.
      let new = c.in_ok-journal.ensures.made before is in
      made g.F.Folder.stands before c.args.run (g.D.Device.now c.in_ok-journal.journal) _ _ none c.in_ok-journal.ensures.empty new
      (c.in_ok-keep.ensures.kept new.standing new.is);
  fault = tt;
}
