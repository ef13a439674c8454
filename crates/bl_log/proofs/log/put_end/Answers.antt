use Rattle.std.proofs.Common.{rules, ◌≡◌, ◌++◌, ap, codes, decimal}
use Rattle.bl_wire.proofs.PutLaws.{puts-append, puts-is}
use Rattle.bl_log.proofs.Noting.{puts-six}
use Rattle.bl_log.proofs.log.put_end.Goals as goal

pub returns : goal.returns
returns g c =
    let said = c.as_bytes.result.now in
    let how : said ≡ c.args.how.now = search rules in
    let counts =
    ((((codes "ended lines " ++ decimal c.args.lines) ++ codes " refused ") ++ decimal c.args.refused) ++ codes " events ") ++ decimal c.args.events in
    puts-is ((counts ++ codes " ") ++ said) _ _ _ (ap (λ l. (counts ++ codes " ") ++ l) how)
    (puts-append (counts ++ codes " ") said _ _ _
    (puts-append counts (codes " ") _ _ _
    (puts-six (codes "ended lines ") (decimal c.args.lines) (codes " refused ") (decimal c.args.refused) (codes " events ") (decimal c.args.events) _ _ _ _ _ _ _
    c.put.ensures.puts c.put_count.ensures c.put-2.ensures.puts c.put_count-2.ensures c.put-3.ensures.puts c.put_count-3.ensures)
    c.put-4.ensures.puts) c.put-5.ensures.puts)
