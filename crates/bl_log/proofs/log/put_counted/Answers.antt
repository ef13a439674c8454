use Rattle.std.proofs.Common.{decimal}
use Rattle.bl_wire.proofs.PutLaws.{puts-append}
use Rattle.bl_log.proofs.log.put_counted.Goals as goal

pub returns : goal.returns
returns g c = puts-append c.args.word.now (decimal c.args.count) _ _ _ c.put.ensures.puts c.put_count.ensures
