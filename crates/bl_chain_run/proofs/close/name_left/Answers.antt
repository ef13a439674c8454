use Rattle.std.proofs.Common.{Some}
use Rattle.std.proofs.lemmas.Result.{on_ok_weaker}
use Rattle.bl_disk.specs.File.{seen}
use Rattle.bl_folder.specs.Names.{trail_of, trail_part_of}
use Rattle.bl_chain.proofs.Exits.{refused, silent}
use Rattle.bl_chain_run.proofs.Apart.{trail-part}
use Rattle.bl_chain_run.proofs.Taking.{taken, taken-as}
use Rattle.bl_chain_run.proofs.close.name_left.Goals as goal

pub returns-in_err-journal : goal.returns-in_err-journal
returns-in_err-journal g c = record {
  named = λ before is. silent _ _ _ c.from_residual.ensures.1;
  fault = refused _ _ c.from_residual.ensures.1;
}

pub returns-in_err-name : goal.returns-in_err-name
returns-in_err-name g c = record {
  named = λ before is. silent _ _ _ c.from_residual-in_err-name.ensures.1;
  fault = refused _ _ c.from_residual-in_err-name.ensures.1;
}

pub returns : goal.returns
returns g c = record {
  named = λ before is.
      let run = c.args.run in
      let bytes = Some (seen (g.D.Device.now c.in_ok-journal.journal)) in
      let found = c.in_ok-journal.ensures.journal before is in
      let named = c.in_ok-name.ensures.named before (c.in_ok-journal.ensures.same before is) in
      let tidied = rw c.trail_part.ensures at (c.keep_names.ensures.kept named.1.standing named.1.is) in
      on_ok_weaker c.keep_names.result
      (λ b. taken-as g.F.Folder.stands (trail_of run) (trail_part_of run) (trail-part run run) bytes before _ (before.seen (trail_part_of run)) found
      (taken g.F.Folder.stands (trail_of run) (trail_part_of run) (trail-part run run) bytes before _ _ named.0 named.1 b)) tidied;
  fault = c.keep_names.ensures.fault;
}
