use Rattle.bl_write.specs.Unread.{work_tokens}
use Rattle.bl_write.proofs.Counting.{short_where}
use Rattle.bl_write.proofs.knows.is_short.Goals as goal

pub returns : goal.returns
returns c =
    short_where (work_tokens c.args.names.now c.args.work.now) c.new-length.result c.put_work.new.sink c.fits.result c.new-length.ensures c.in-Ok.ensures c.fits.ensures
