use Rattle.std.proofs.Common.{◌∙◌, Some, ap, sym, subst}
use Rattle.bl_record.proofs.Keeping.{loses-none}
use Rattle.bl_trail_run.specs.Recording.{IsOfTrail}
use Rattle.bl_alone.proofs.Causes.{end_caused, of_trail}
use Rattle.bl_alone.proofs.Leaving.{grown_of}
use Rattle.bl_alone.proofs.close.close_up.Goals as goal

pub close_with-requires-clause-goes_on : goal.close_with-requires-clause-goes_on
close_with-requires-clause-goes_on g c fine = (c.requires.0, c.requires.1.2, grown_of c.requires.0 c.args.hall.now c.requires.2)

pub returns-in-Ok-clause-left : goal.returns-in-Ok-clause-left
returns-in-Ok-clause-left g c kept recorded front agree names = (front, record { there = c.in-Ok.ensures.closed; true_text = c.in-Ok.ensures.true_text })

pub returns-in-Err-clause-left : goal.returns-in-Err-clause-left
returns-in-Err-clause-left g c kept recorded front agree names = (
  subst IsOfTrail (sym c.of_end.ensures) (of_trail c.in-Err.fault),
  (loses-none g.D.Device.now g.D.Device.past c.a_crash_loses_nothing_that_was_kept.ensures kept agree names c.args.recorder.journal.bookmark c.args.recorder.journal.log.device c.in-Err.device
      recorded.2 c.in-Err.ensures.any_moment_failed).last,
)

pub returns-in-Err-clause-cause : goal.returns-in-Err-clause-cause
returns-in-Err-clause-cause g c told = end_caused c.in-Err.fault _ (c.in-Err.ensures.cause c.requires.1.0) (ap Some (sym c.of_end.ensures) ∙ told)
