use Rattle.std.proofs.Common.{ap, ◌∙◌, ◌++◌, sym}
use Rattle.bl_audit.proofs.Staying.{stays}
use Rattle.bl_disk.specs.File.{all_kept, seen}
use Rattle.bl_rebuild.specs.Rebuilds.{journal_of}
use Rattle.bl_record.proofs.Keeping.{last-text, last-true}
use Rattle.bl_record.proofs.journal.Journal.close_with.Goals as goal

pub last_text-text-requires : goal.last_text-text-requires
last_text-text-requires g c sound =
    let t = c.requires.goes_on sound in
    stays t.0 c.args.hall.now c.args.self.bookmark t.2 t.1.bookmark

pub returns-in-Ok-added-clause-closed : goal.returns-in-Ok-added-clause-closed
returns-in-Ok-added-clause-closed g c =
    let t = c.requires.goes_on c.in-Ok.ensures.fine in
    let lines = c.in-Ok.ensures.text in
    let old = g.D.Device.now c.args.self.log.device in
    last-text t.0 c.args.hall.now c.args.self.bookmark lines.0 old _ t.2 t.1 lines.1
    (ap g.D.Device.now c.close_synced.ensures ∙ c.in-Ok-added.ensures.kept ∙ ap (λ text. all_kept (seen old ++ text)) (c.deref.ensures.value ∙ lines.2))

pub returns-in-Ok-added-clause-true_text : goal.returns-in-Ok-added-clause-true_text
returns-in-Ok-added-clause-true_text g c =
    let t = c.requires.goes_on c.in-Ok.ensures.fine in
    let lines = c.in-Ok.ensures.text in
    let old = g.D.Device.now c.args.self.log.device in
    last-true t.0 c.args.hall.now c.args.self.bookmark lines.0 old _ t.2 t.1 lines.1
    (ap g.D.Device.now c.close_synced.ensures ∙ c.in-Ok-added.ensures.kept ∙ ap (λ text. all_kept (seen old ++ text)) (c.deref.ensures.value ∙ lines.2))
    (c.closed_journals_are_true.ensures.text c.args.hall.now.setup (journal_of c.args.hall.now))
