use Rattle.bl_disk.specs.File.{seen}
use Rattle.bl_chain.proofs.Exits.{ok-so, silent, told}
use Rattle.bl_chain_run.proofs.Starting.{is-made, still-there}
use Rattle.bl_chain_run.proofs.start.ready.Goals as goal

pub returns-in_err-catch_up : goal.returns-in_err-catch_up
returns-in_err-catch_up g c = record {
  sound = silent _ _ _ c.from_residual.ensures.1;
  empty = λ new. silent _ _ _ c.from_residual.ensures.1;
  ready = silent _ _ _ c.from_residual.ensures.1;
  fault = told _ _ _ c.from_residual.ensures.1 c.in_err-catch_up.ensures.fault;
}

pub returns-in_err-clear : goal.returns-in_err-clear
returns-in_err-clear g c = record {
  sound = silent _ _ _ c.from_residual-in_err-clear.ensures.1;
  empty = λ new. silent _ _ _ c.from_residual-in_err-clear.ensures.1;
  ready = silent _ _ _ c.from_residual-in_err-clear.ensures.1;
  fault = told _ _ _ c.from_residual-in_err-clear.ensures.1 c.in_err-clear.ensures.fault;
}

pub returns : goal.returns
returns g c = record {
  sound = c.journal_of.ensures.sound;
  empty = c.journal_of.ensures.empty;
  ready = ok-so c.journal_of.result c.journal_of.ensures.begun (λ journal f before is looked.
      let at = c.args.looked.now in
      let caught = c.in_ok-catch_up.ensures.caught_up before is looked in
      let cleared = c.in_ok-clear.ensures.cleared caught.standing caught.is in
      let bytes = seen (g.D.Device.now journal) in
      let begun = f cleared.standing cleared.is (still-there g.F.Folder.stands before at _ _ caught cleared looked.journal) in
      is-made g.F.Folder.stands before at _ _ caught cleared _ bytes begun);
  fault = c.journal_of.ensures.fault;
}
