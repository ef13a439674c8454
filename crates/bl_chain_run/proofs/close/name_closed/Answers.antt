use Rattle.std.proofs.Common.{Some}
use Rattle.std.proofs.lemmas.Result.{on_ok_weaker}
use Rattle.bl_disk.specs.File.{seen}
use Rattle.bl_folder.specs.Names.{trail_of, trail_part_of}
use Rattle.bl_chain.proofs.Exits.{refused, silent}
use Rattle.bl_chain_run.proofs.Apart.{trail-part}
use Rattle.bl_chain_run.proofs.Taking.{taken}
use Rattle.bl_chain_run.proofs.close.name_closed.Goals as goal

pub returns-in_err-name : goal.returns-in_err-name
returns-in_err-name g c = record {
  named = λ before is. silent _ _ _ c.from_residual.ensures.1;
  fault = refused _ _ c.from_residual.ensures.1;
}

pub returns : goal.returns
returns g c = record {
  named = λ before is.
      let run = c.args.run in
      let named = rw c.device.ensures at (c.in_ok-name.ensures.named before is) in
      let tidied = rw c.trail_part.ensures at (c.keep_names.ensures.kept named.1.standing named.1.is) in
      on_ok_weaker c.keep_names.result
      (λ b. taken g.F.Folder.stands (trail_of run) (trail_part_of run) (trail-part run run) (Some (seen (g.D.Device.now c.args.journal.now))) before _ _ named.0 named.1 b) tidied;
  fault = c.keep_names.ensures.fault;
}
