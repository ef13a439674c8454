use Rattle.std.proofs.Common.{◌≡◌, [], ◌∙◌, ap, rules, ◌++◌}
use Rattle.std.proofs.lemmas.List.{nil_from_length}
use Rattle.bl_disk.specs.File.{all_kept, seen}
use Rattle.bl_record.proofs.Keeping.{unwritten, written}
use Rattle.bl_record.proofs.journal.Journal.write.Goals as goal

pub returns-then-is_empty-clause-kept : goal.returns-then-is_empty-clause-kept
returns-then-is_empty-clause-kept g c before hall kept grown are =
    let none : c.args.lines.text.items ≡ [] = nil_from_length c.args.lines.text.items (search rules) in
    unwritten before hall c.args.self.now.bookmark c.args.lines (g.D.Device.now c.args.self.now.log.device) grown kept are none

pub returns-in-Ok-clause-kept : goal.returns-in-Ok-clause-kept
returns-in-Ok-clause-kept g c before hall kept grown are =
    let old = g.D.Device.now c.args.self.now.log.device in
    written before hall c.args.self.now.bookmark c.args.lines old (g.D.Device.now c.add.new.self.device) grown kept are
    (c.in-Ok.ensures.kept ∙ ap (λ text. all_kept (seen old ++ text)) c.deref.ensures.value)
