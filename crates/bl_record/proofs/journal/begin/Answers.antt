use Rattle.std.proofs.Common.{◌∙◌}
use Rattle.bl_record.proofs.Keeping.{begun}
use Rattle.bl_record.proofs.journal.begin.Goals as goal

pub returns-in-Ok-add-clause-kept : goal.returns-in-Ok-add-clause-kept
returns-in-Ok-add-clause-kept g c setup two =
    begun setup two c.args.limit c.requires.limit c.first.result c.first.ensures.bookmark c.first.ensures.none
    (g.D.Device.now c.in-Ok-reopen.log.device) (g.D.Device.now c.add.new.self.device) c.deref.result.now
    c.in-Ok-reopen.ensures.kept (c.deref.ensures.value ∙ c.in-Ok.ensures) c.in-Ok-add.ensures.kept
