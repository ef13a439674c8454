use Rattle.std.proofs.Common.{rules, ◌≡◌, ◌++◌, ap, codes}
use Rattle.bl_wire.proofs.PutLaws.{puts-three}
use Rattle.bl_status.specs.Places.{door_line}
use Rattle.bl_status.proofs.place.tell_door.Goals as goal

pub returns : goal.returns
returns g c =
    let said = c.as_bytes.result.now in
    let name : c.args.name.now ≡ said = search rules in
    record {
      puts = puts-three (door_line c.args.name.now) (codes "door: ") said (codes "\n") _ _ _ _ (ap (λ l. codes "door: " ++ (l ++ codes "\n")) name)
          c.put.ensures.puts c.put-2.ensures.puts c.put_out.ensures.puts;
    }
