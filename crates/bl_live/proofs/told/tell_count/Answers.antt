use Rattle.std.proofs.Common.{rules, ◌≡◌, ◌++◌, ap, codes, decimal}
use Rattle.bl_wire.proofs.PutLaws.{puts-is, puts-line}
use Rattle.bl_entrance.specs.Ends.{ended_words}
use Rattle.bl_live.specs.Telling.{count_line}
use Rattle.bl_live.proofs.told.tell_count.Goals as goal

pub returns : goal.returns
returns g c =
    let said = c.as_bytes.result.now in
    let words : said ≡ ended_words c.args.why = search rules in
    record {
      puts = puts-is (((said ++ codes ": ") ++ decimal c.args.count) ++ codes " more\n") (count_line c.args.why c.args.count) _ _
          (ap (λ l. ((l ++ codes ": ") ++ decimal c.args.count) ++ codes " more\n") words)
          (puts-line said (codes ": ") (decimal c.args.count) (codes " more\n") _ _ _ _ _
          c.put.ensures.puts c.put-2.ensures.puts c.put_number.ensures.puts c.put_out.ensures.puts);
    }
