use Rattle.std.proofs.Common.{decimal, refl}
use Rattle.bl_wire.proofs.PutLaws.{puts-three}
use Rattle.bl_explaining_trail.specs.Telling.{event_line}
use Rattle.bl_explaining_trail.proofs.told.tell_event.Goals as goal

pub returns : goal.returns
returns g c =
    puts-three (event_line c.args.before.now c.args.event c.args.after.now) c.args.before.now (decimal c.args.event) c.args.after.now _ _ _ _ refl
    c.put.ensures.puts c.put_count.ensures.puts c.put_out.ensures.puts
