use Rattle.std.proofs.Common.{refl, codes, decimal}
use Rattle.bl_wire.proofs.PutLaws.{puts-three}
use Rattle.bl_status.specs.Places.{port_line}
use Rattle.bl_status.proofs.place.tell_port.Goals as goal

pub returns : goal.returns
returns g c = record {
  puts = puts-three (port_line c.args.port) (codes "port: ") (decimal c.args.port) (codes "\n") _ _ _ _ refl c.put.ensures.puts c.put_number.ensures.puts c.put_out.ensures.puts;
}
