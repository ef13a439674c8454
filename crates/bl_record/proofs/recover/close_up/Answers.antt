use Rattle.std.proofs.Common.{◌∙◌, ap, length, subst}
use Rattle.std.proofs.lemmas.List.{length-map}
use Rattle.bl_disk.specs.File.{seen}
use Rattle.bl_hall.specs.Chronicle.{kept_of}
use Rattle.bl_record.proofs.Histories.{none-closing}
use Rattle.bl_record.proofs.Resuming.{closes, its-setup}
use Rattle.bl_record.proofs.recover.close_up.Goals as goal
use Rattle.bl_record.proofs.recover.close_up.Goals.{then-completed, else-completed}
use Rattle.bl_work.specs.Names.{AreNames}

pub returns-in-Ok-close-clause-closed : goal.returns-in-Ok-close-clause-closed
returns-in-Ok-close-clause-closed g c =
    let h = c.args.completed.hall in
    closes c.args.setup.now (seen (g.D.Device.now c.args.device)) c.args.completed c.requires.completed c.in-Ok.journal.bookmark
    (g.D.Device.now c.in-Ok.journal.log.device) (g.D.Device.now c.in-Ok-close.closed) (length c.trail-events.result.now) c.if-completed.cut c.in-Ok.ensures.kept
    (ap length c.trail-events.ensures.value ∙ length-map h.trail kept_of) (c.in-Ok-close.ensures.closed h c.in-Ok.ensures.kept)
    (c.in-Ok-close.ensures.true_text h c.in-Ok.ensures.kept)
    (λ stop. elim c.if-completed.branch [ then-completed w ↦ w.cut-is | else-completed w ↦ cc ])
    (λ none. elim c.if-completed.branch [ then-completed w ↦ cc | else-completed w ↦ w.cut-is ])

pub returns-in-Ok-close-clause-any_moment : goal.returns-in-Ok-close-clause-any_moment
returns-in-Ok-close-clause-any_moment g c =
    none-closing g.D.Device.now g.D.Device.past c.a_crash_loses_nothing_that_was_kept.ensures c.args.setup.now c.names.ensures.agree
    (subst AreNames c.names.ensures.value c.scheme-scheme.ensures.names) c.args.completed.hall c.in-Ok.journal.bookmark c.args.device c.in-Ok.journal.log.device
    c.in-Ok-close.closed (its-setup c.args.setup.now (seen (g.D.Device.now c.args.device)) c.args.completed c.requires.completed) c.in-Ok.ensures.kept
    c.in-Ok.ensures.any_moment c.in-Ok-close.ensures.any_moment

pub returns-in-Err-close-clause-any_moment_failed : goal.returns-in-Err-close-clause-any_moment_failed
returns-in-Err-close-clause-any_moment_failed g c =
    none-closing g.D.Device.now g.D.Device.past c.a_crash_loses_nothing_that_was_kept.ensures c.args.setup.now c.names.ensures.agree
    (subst AreNames c.names.ensures.value c.scheme-scheme.ensures.names) c.args.completed.hall c.in-Ok.journal.bookmark c.args.device c.in-Ok.journal.log.device
    c.in-Err-close.device (its-setup c.args.setup.now (seen (g.D.Device.now c.args.device)) c.args.completed c.requires.completed) c.in-Ok.ensures.kept
    c.in-Ok.ensures.any_moment c.in-Err-close.ensures.any_moment_failed
