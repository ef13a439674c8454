use Rattle.std.proofs.Common.{codes, decimal}
use Rattle.bl_wire.proofs.PutLaws.{puts-append}
use Rattle.bl_chain.specs.Telling.{numbered}
use Rattle.bl_chain.proofs.told.put_at_line.Goals as goal

pub returns : goal.returns
returns g c = puts-append (numbered (codes "run ") c.args.run c.args.words.now) (decimal c.args.line) _ _ _ c.put_number_between.ensures c.put_count.ensures.puts
