use Rattle.std.proofs.Common.{rules, ◌≡◌, ◌∙◌, ap, false, inl, inr, refl, sym, subst}
use Rattle.std.proofs.KnownBytes.{Keeps-refl}
use Rattle.std.specs.Prelude.{not}
use Rattle.bl_wire.specs.Watch.{Puts, end_state}
use Rattle.bl_wire.specs.declared.watched.Watched.{Watched}
use Rattle.bl_wire.proofs.PutLaws.{puts-append}
use Rattle.bl_hall.specs.Chronicle.{Chronicle}
use Rattle.bl_trail_run.specs.Files.{file_in, is_whole}
use Rattle.bl_trail_run.specs.Recording.{HasRecorded}
use Rattle.bl_journal_files.specs.Telling.{cut_line}
use Rattle.bl_serving.specs.Hosted.{HasHosted}
use Rattle.bl_serving.specs.Telling.{words_at}
use Rattle.bl_status.specs.declared.fault.ProgramFault.TheVariants.{Write}
use Rattle.bl_serving.proofs.recorded.serve_recorded.Goals as goal

-- nothing was begun
pub returns-in-Err-clause-run : goal.returns-in-Err-clause-run
returns-in-Err-clause-run g c =
    let (fault, torn, status, said, why) = c.in-Err.ensures.err in
    inr (fault, torn, (status, inl (Keeps-refl _, said, why)))

-- `listening` was not told
pub returns-then-not-put_out-clause-run : goal.returns-then-not-put_out-clause-run
returns-then-not-put_out-clause-run g c =
    let begun = c.in-Ok.begun in
    let has = c.in-Ok.ensures.ok in
    let fault = Write in
    let untold : c.put_out.result ≡ false = search rules in
    inr (
      fault,
      ap is_whole c.end_with.ensures.part,
      (
        c.end_with.ensures.told.status_is,
        inr (
          refl,
          c.put_out.ensures.failed ∙ ap not untold,
          c.put_out.ensures.some,
          (has.hall, begun.cut, has.begins, puts-append (cut_line begun.cut) (words_at (file_in g.D.FileName.name c.end_with.result.file) fault) _ _ _ (subst (λ (e : Watched _). Puts (cut_line begun.cut) (end_state g.E.Write.contents e) (end_state g.E.Write.contents c.tell_cut.new.errors)) c.in-Ok.ensures.quiet c.tell_cut.ensures.puts) c.end_with.ensures.puts),
        ),
      ),
    )

pub host_on-recorded-requires-clause-recorded : goal.host_on-recorded-requires-clause-recorded
host_on-recorded-requires-clause-recorded g c κs within =
    let has = c.in-Ok.ensures.ok in
    subst (λ (h : Chronicle). HasRecorded g.D.Device.now g.D.Device.has_failed c.in-Ok.begun.journal h) (sym has.sees) has.recorded

-- sessions were served
pub returns-clause-run : goal.returns-clause-run
returns-clause-run g c =
    let has = c.in-Ok.ensures.ok in
    let served = c.host_on-recorded in
    inl (record {
      begun = has.hall;
      cut = c.in-Ok.begun.cut;
      begins = has.begins;
      listens = c.put_out.ensures.all (search rules);
      between = end_state g.E.Write.contents c.tell_cut.new.errors;
      told = subst (λ (e : Watched _). Puts (cut_line c.in-Ok.begun.cut) (end_state g.E.Write.contents e) (end_state g.E.Write.contents c.tell_cut.new.errors)) c.in-Ok.ensures.quiet c.tell_cut.ensures.puts;
      hosted = subst (λ (h : Chronicle). HasHosted h served.result.recorded.status (is_whole served.result.recorded.file)
          (file_in g.D.Device.now served.result.recorded.file) (end_state g.E.Write.contents c.tell_cut.new.errors)
          (end_state g.E.Write.contents served.new.errors)) has.sees served.ensures.run;
    })
