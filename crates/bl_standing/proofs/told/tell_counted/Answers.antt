use Rattle.std.proofs.Common.{rules, ◌≡◌, ◌++◌, ap, sym, decimal}
use Rattle.bl_wire.proofs.PutLaws.{puts-three}
use Rattle.bl_standing.specs.Telling.{counted_line}
use Rattle.bl_standing.proofs.told.tell_counted.Goals as goal

pub returns : goal.returns
returns g c =
    let before = c.args.before.now in
    let number = c.as_bytes.result.now in
    let after = c.args.after.now in
    let is : number ≡ decimal c.args.number = search rules in
    record {
      puts = puts-three (counted_line before c.args.number after) before number after _ _ _ _ (ap (λ t. before ++ (t ++ after)) (sym is))
          c.put.ensures.puts c.put-2.ensures.puts c.put_out.ensures.puts;
    }
