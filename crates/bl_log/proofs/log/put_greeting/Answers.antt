use Rattle.std.proofs.Common.{rules, ◌≡◌, ◌++◌, ap, codes, decimal}
use Rattle.bl_wire.proofs.PutLaws.{puts-is, puts-line}
use Rattle.bl_log.proofs.log.put_greeting.Goals as goal

pub returns : goal.returns
returns g c =
    let said = c.as_bytes.result.now in
    let subject : said ≡ c.args.subject.now = search rules in
    puts-is (((codes "hello " ++ said) ++ codes " session ") ++ decimal c.args.session) _ _ _
    (ap (λ l. ((codes "hello " ++ l) ++ codes " session ") ++ decimal c.args.session) subject)
    (puts-line (codes "hello ") said (codes " session ") (decimal c.args.session) _ _ _ _ _
    c.put.ensures.puts c.put-2.ensures.puts c.put-3.ensures.puts c.put_number.ensures.puts)
