use Rattle.std.proofs.Common.{rules, ◌≡◌, ◌∙◌, ap, false, true, inl, inr, refl, sym, subst}
use Rattle.std.proofs.KnownBytes.{Appends-nil}
use Rattle.bl_hall.specs.Chronicle.{Chronicle}
use Rattle.bl_serving.specs.Hosted.{HasHosted, IsHallOf}
use Rattle.bl_serving.specs.Telling.{words_at}
use Rattle.bl_status.specs.declared.fault.ProgramFault.TheVariants.{Write}
use Rattle.bl_trail_run.specs.Files.{file_in, is_whole}
use Rattle.bl_trail_run.specs.Recording.{HasRecorded, new_hall}
use Rattle.bl_trail_run.specs.declared.recorded.Recorded.{Recorded}
use Rattle.bl_wire.specs.Watch.{Puts, end_state}
use Rattle.bl_wire.specs.declared.watched.Watched.{Watched}
use Rattle.bl_serving.proofs.chained.serve_chained.Goals as goal

-- nothing was begun
pub returns-in-Err-clause-run : goal.returns-in-Err-clause-run
returns-in-Err-clause-run g c =
    let (fault, torn, status, said, why) = c.in-Err.ensures.err in
    let same = c.unserved.ensures.0 in
    inr (record {
      fault = fault;
      status_is = ap (λ (r : Recorded _). r.status) same ∙ status;
      torn = ap (λ (r : Recorded _). is_whole r.file) same ∙ torn;
      none = c.unserved.ensures.1;
      said = subst (λ (r : Recorded _). Puts (words_at (file_in g.D.FileName.name r.file) fault) (end_state g.E.Write.contents c.args.errors.now) (end_state g.E.Write.contents c.begin_run.new.errors)) (sym same) said;
      told = (0, Appends-nil _);
    })

-- `listening` was not told
pub returns-then-not-announce-clause-run : goal.returns-then-not-announce-clause-run
returns-then-not-announce-clause-run g c =
    let same = c.unserved-then-not-announce.ensures.0 in
    let quiet = c.in-Ok.ensures.quiet in
    inr (record {
      fault = Write;
      status_is = ap (λ (r : Recorded _). r.status) same ∙ c.end_with.ensures.told.status_is;
      torn = ap (λ (r : Recorded _). is_whole r.file) same ∙ ap is_whole c.end_with.ensures.part;
      none = c.unserved-then-not-announce.ensures.1;
      said = subst (λ (r : Recorded _). Puts (words_at (file_in g.D.FileName.name r.file) Write) (end_state g.E.Write.contents c.args.errors.now) (end_state g.E.Write.contents c.end_with.new.errors)) (sym same)
          (subst (λ (e : Watched _). Puts (words_at (file_in g.D.FileName.name c.end_with.result.file) Write) (end_state g.E.Write.contents e) (end_state g.E.Write.contents c.end_with.new.errors)) quiet c.end_with.ensures.puts);
      told = c.announce.ensures.some;
    })

pub host_on-recorded-requires-clause-recorded : goal.host_on-recorded-requires-clause-recorded
host_on-recorded-requires-clause-recorded g c κs within =
    let has = c.in-Ok.ensures.ok in
    subst (λ (h : Chronicle). HasRecorded g.D.Device.now g.D.Device.has_failed c.in-Ok.begun.journal h) (sym has.sees) has.recorded

-- sessions were served in a new hall
pub returns-clause-run : goal.returns-clause-run
returns-clause-run g c =
    let has = c.in-Ok.ensures.ok in
    let served = c.host_on-recorded in
    let new = has.sees ∙ has.begins.0 in
    let quiet = c.in-Ok.ensures.quiet in
    inl (record {
      told = c.announce.ensures.all (search rules);
      hosted = subst (λ (e : Watched _). HasHosted (new_hall c.args.setup c.args.hosts.now.run.now.limit) served.result.recorded.status (is_whole served.result.recorded.file) (file_in g.D.Device.now served.result.recorded.file)
          (end_state g.E.Write.contents e) (end_state g.E.Write.contents served.new.errors)) quiet
          (subst (λ (h : Chronicle). HasHosted h served.result.recorded.status (is_whole served.result.recorded.file) (file_in g.D.Device.now served.result.recorded.file)
          (end_state g.E.Write.contents c.begin_run.new.errors) (end_state g.E.Write.contents served.new.errors)) new served.ensures.run);
      hall_is = subst (λ (h : Chronicle). IsHallOf h (is_whole served.result.recorded.file) (file_in g.D.Device.now served.result.recorded.file) served.result.hall) new served.ensures.hall;
    })
