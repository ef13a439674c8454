use Rattle.std.proofs.Common.{refl}
use Rattle.bl_wire.proofs.PutLaws.{puts-three}
use Rattle.bl_wire.proofs.put.put_between.Goals as goal

pub returns-in-None : goal.returns-in-None
returns-in-None g c =
    puts-three _ c.args.before.now c.args.text.now c.args.after.now _ _ _ _ refl c.put-in-None.ensures.puts c.put-in-None-2.ensures.puts c.put-in-None-3.ensures.puts
