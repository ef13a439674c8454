use Rattle.std.proofs.Common.{◌≡◌, ap, inl, inr, refl, sym, subst}
use Rattle.bl_disk.specs.File.{seen}
use Rattle.bl_hall.specs.Chronicle.{Chronicle}
use Rattle.bl_trail_run.specs.Beginning.{IsUnbegun}
use Rattle.bl_trail_run.specs.Files.{file_in, is_whole}
use Rattle.bl_status.specs.declared.fault.ProgramFault.TheVariants.{NoMemory}
use Rattle.bl_serving.proofs.Hosting.{hall_of_new}
use Rattle.bl_serving.proofs.recorded.begin_run.Goals as goal

-- nothing was begun
pub returns-in-Err-clause-err : goal.returns-in-Err-clause-err
returns-in-Err-clause-err g c =
    let ended = c.end_with in
    let text = seen (g.D.Device.now c.args.start.device) in
    let why = subst (λ file. IsUnbegun c.args.start.resumes c.args.setup text (file_in g.D.Device.has_failed file) c.in-Err.fault) (sym ended.ensures.part) c.in-Err.ensures.err in
    (c.in-Err.fault, ap is_whole ended.ensures.part, ended.ensures.told.status_is, ended.ensures.puts, inl why)

-- a growth was refused for the gate
pub returns-in-Err-new-clause-err : goal.returns-in-Err-new-clause-err
returns-in-Err-new-clause-err g c =
    (NoMemory, ap is_whole c.end_with-in-Err-new.ensures.part, c.end_with-in-Err-new.ensures.told.status_is, c.end_with-in-Err-new.ensures.puts, inr refl)

-- a gate stands round the hall
pub returns-in-Ok-new-clause-ok : goal.returns-in-Ok-new-clause-ok
returns-in-Ok-new-clause-ok g c =
    let begun = c.in-Ok.begun in
    let made = c.in-Ok-new.made in
    record {
      hall = begun.hall;
      begins = c.in-Ok.ensures.begins;
      made = c.in-Ok-new.ensures.gate.0;
      parts = c.in-Ok-new.ensures.parts;
      sees = hall_of_new made.1 made.0 begun.hall c.in-Ok-new.ensures.gate.0 c.in-Ok-new.ensures.gate.1 c.in-Ok-new.ensures.seen.0;
      recorded = c.in-Ok.ensures.recorded;
    }
