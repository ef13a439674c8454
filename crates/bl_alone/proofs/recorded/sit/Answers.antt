use Rattle.std.proofs.Common.{◌∙◌, ap, refl, sym, subst, ◌++◌}
use Rattle.std.specs.Option.{option_to_list}
use Rattle.bl_setup.specs.Agreement.{Agree}
use Rattle.bl_setup.specs.Setup.{Setup}
use Rattle.bl_hall.specs.Chronicle.{Chronicle}
use Rattle.bl_wire.proofs.PutLaws.{puts-all, puts-two}
use Rattle.bl_work.specs.Names.{AreNames}
use Rattle.bl_trail_run.specs.Files.{fault_in, file_after, file_in}
use Rattle.bl_trail_run.specs.Recording.{IsLeft}
use Rattle.std.specs.List.{flat_map}
use Rattle.bl_status.specs.Message.{fault_line}
use Rattle.bl_journal_files.specs.Telling.{cut_line}
use Rattle.bl_alone.proofs.Causes.{given_not_none}
use Rattle.bl_alone.proofs.Ending.{when_served}
use Rattle.bl_alone.proofs.recorded.sit.Goals as goal

-- the hall that the session left has gone on from what was kept
pub close_after-left-requires : goal.close_after-left-requires
close_after-left-requires g c =
    let kept = c.serve_after-served.ensures.told in
    (kept.kept, kept.held, (kept.front.0, c.hall.ensures ∙ kept.front.1))

pub returns-clause-run : goal.returns-clause-run
returns-clause-run g c =
    let served = c.serve_after-served in
    let hall = served.result.1.pages.hall in
    let kept = served.ensures.told in
    let left = c.close_after-left.result in
    let told = c.tell_recorded.ensures.told in
    let same = kept.told.setup_is ∙ c.requires.hall.setup_is in
    record {
      served = served.result.0;
      hall = hall;
      ended = served.ensures.ended;
      kept = kept.kept;
      since = kept.since;
      told = kept.told;
      trail = fault_in left;
      left = subst (λ file. IsLeft kept.kept hall (fault_in left) (file_in g.D.Device.now file)) (sym c.tell_recorded.ensures.file)
          (subst (λ (h : Chronicle). IsLeft kept.kept h (fault_in left) (file_in g.D.Device.now (file_after left))) c.hall.ensures
          (c.close_after-left.ensures.left kept.kept kept.held (kept.front.0, c.hall.ensures ∙ kept.front.1) (subst Agree (sym same) c.names.ensures.agree)
          (subst (λ (s : Setup). AreNames s.names) (sym same) (subst AreNames c.names.ensures.value c.scheme-scheme.ensures.names))));
      cut_short = λ stop none'. given_not_none _ (fault_in left) (c.close_after-left.ensures.unkept stop) none';
      cause = λ short. ap (file_in g.D.Device.has_failed) c.tell_recorded.ensures.file ∙ c.close_after-left.ensures.cause short;
      whole = c.tell_recorded.ensures.whole;
      stopped = told.0;
      stopped_is = told.1;
      status_is = told.2;
      said = λ fine.
          puts-all _ _ _
          (puts-two _ (cut_line c.args.begun.cut) (flat_map fault_line (option_to_list told.0 ++ option_to_list (fault_in left))) _ _ _ refl c.tell_cut.ensures.puts told.3) fine;
    }

pub returns-clause-handed_on : goal.returns-clause-handed_on
returns-clause-handed_on g c zero =
    when_served c.serve_after-served.result.0 _ c.serve_after-served.ensures.handed_on (c.tell_recorded.ensures.fine zero).0
