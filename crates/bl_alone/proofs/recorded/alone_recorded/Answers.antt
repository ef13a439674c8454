use Rattle.std.proofs.Common.{ap, inl, inr, subst, sym}
use Rattle.std.proofs.KnownBytes.{Keeps-refl}
use Rattle.bl_disk.specs.File.{seen}
use Rattle.bl_trail_run.specs.Beginning.{IsUnbegun}
use Rattle.bl_trail_run.specs.Files.{file_in, is_whole}
use Rattle.bl_alone.proofs.Beginning.{begun_ended, begun_setup}
use Rattle.bl_alone.proofs.recorded.alone_recorded.Goals as goal

pub go_on-requires-clause-setup : goal.go_on-requires-clause-setup
go_on-requires-clause-setup g c =
    begun_setup c.args.start.resumes c.args.setup c.args.run.now.limit (seen (g.D.Device.now c.args.start.device)) c.in-Ok.begun.hall c.in-Ok.begun.cut c.in-Ok.ensures.begins

pub go_on-requires-clause-ended : goal.go_on-requires-clause-ended
go_on-requires-clause-ended g c =
    begun_ended c.args.start.resumes c.args.setup c.args.run.now.limit (seen (g.D.Device.now c.args.start.device)) c.in-Ok.begun.hall c.in-Ok.begun.cut c.in-Ok.ensures.begins

-- a session was had in the hall that was begun with, or none could be
pub returns-in-Ok-clause-run : goal.returns-in-Ok-clause-run
returns-in-Ok-clause-run g c =
    inl (record {
      begun = c.in-Ok.begun.hall;
      cut = c.in-Ok.begun.cut;
      begins = c.in-Ok.ensures.begins;
      on = c.go_on.ensures.run;
    })

-- nothing was begun
pub returns-in-Err-clause-run : goal.returns-in-Err-clause-run
returns-in-Err-clause-run g c =
    let ended = c.end_with in
    let text = seen (g.D.Device.now c.args.start.device) in
    inr (record {
      fault = c.in-Err.fault;
      why = subst (λ file. IsUnbegun c.args.start.resumes c.args.setup text (file_in g.D.Device.has_failed file) c.in-Err.fault) (sym ended.ensures.part) c.in-Err.ensures.err;
      part = ap is_whole ended.ensures.part;
      told = ended.ensures.told;
      unread = Keeps-refl _;
      unwritten = Keeps-refl _;
    })
