use Rattle.std.proofs.Common.{refl, codes, decimal}
use Rattle.bl_wire.proofs.PutLaws.{puts-two}
use Rattle.bl_status.proofs.told.say_wrong.Goals as goal

pub returns : goal.returns
returns g c = record { puts = puts-two _ (codes "trail wrong at line ") (decimal c.args.line) _ _ _ refl c.put.ensures.puts c.put_count.ensures.puts }
