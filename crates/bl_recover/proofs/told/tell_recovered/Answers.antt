use Rattle.std.proofs.Common.{refl, codes, decimal}
use Rattle.bl_wire.proofs.PutLaws.{puts-three}
use Rattle.bl_recover.specs.Telling.{recovered_line}
use Rattle.bl_recover.proofs.told.tell_recovered.Goals as goal

pub returns-clause-puts : goal.returns-clause-puts
returns-clause-puts g c = puts-three (recovered_line c.args.events) (codes "recovered ") (decimal c.args.events) (codes "\n") _ _ _ _ refl
    c.put.ensures.puts c.put_count.ensures.puts c.put_out.ensures.puts
