use Rattle.std.proofs.Common.{rules, ◌≡◌, ◌++◌, ap, codes, decimal}
use Rattle.bl_wire.proofs.PutLaws.{puts-append, puts-is, puts-line}
use Rattle.bl_entrance.specs.Ends.{ended_words}
use Rattle.bl_live.specs.Telling.{ended_line}
use Rattle.bl_live.proofs.told.tell_ended.Goals as goal

pub returns : goal.returns
returns g c =
    let said = c.as_bytes.result.now in
    let words : said ≡ ended_words c.args.ended.now.why = search rules in
    let front = (codes "session " ++ decimal c.args.ended.now.session) ++ codes ": " in
    record {
      puts = puts-is ((front ++ said) ++ codes "\n") (ended_line c.args.ended.now) _ _ (ap (λ l. (front ++ l) ++ codes "\n") words)
          (puts-append (front ++ said) (codes "\n") _ _ _
          (puts-line (codes "session ") (decimal c.args.ended.now.session) (codes ": ") said _ _ _ _ _
          c.put.ensures.puts c.put_number.ensures.puts c.put-2.ensures.puts c.put-3.ensures.puts)
          c.put_out.ensures.puts);
    }
