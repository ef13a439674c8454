use Rattle.std.proofs.Common.{ap, ◌∙◌}
use Rattle.bl_rebuild.specs.Rebuilds.{journal_of}
use Rattle.bl_record.proofs.Keeping.{closed-text, closed-true}
use Rattle.bl_record.proofs.journal.Journal.close.Goals as goal

pub returns-in-Ok-clause-closed : goal.returns-in-Ok-clause-closed
returns-in-Ok-clause-closed g c hall kept = closed-text hall c.args.self.bookmark _ _ kept (ap g.D.Device.now c.close_synced.ensures ∙ c.in-Ok.ensures.kept)

pub returns-in-Ok-clause-true_text : goal.returns-in-Ok-clause-true_text
returns-in-Ok-clause-true_text g c hall kept =
    closed-true hall c.args.self.bookmark _ _ kept (ap g.D.Device.now c.close_synced.ensures ∙ c.in-Ok.ensures.kept)
    (c.closed_journals_are_true.ensures.text hall.setup (journal_of hall) kept.history)
