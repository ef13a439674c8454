use Rattle.bl_write.specs.Unread.{work_tokens}
use Rattle.bl_write.proofs.Matches.{whole_where}
use Rattle.bl_write.proofs.matching.is_text_of.Goals as goal

pub returns : goal.returns
returns c =
    whole_where (work_tokens c.args.names.now c.args.work.now) c.args.text.now c.new-left.result c.put_readable.new.sink c.is_over.result c.new-left.ensures c.in-Ok.ensures c.is_over.ensures
