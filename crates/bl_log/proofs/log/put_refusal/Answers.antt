use Rattle.std.proofs.Common.{rules, ◌≡◌, ◌++◌, ap, codes}
use Rattle.bl_wire.proofs.PutLaws.{puts-append, puts-is}
use Rattle.bl_log.proofs.log.put_refusal.Goals as goal

pub returns : goal.returns
returns g c =
    let said = c.as_bytes.result.now in
    let name : said ≡ c.args.name.now = search rules in
    puts-is (codes "refused " ++ said) _ _ _ (ap (λ l. codes "refused " ++ l) name)
    (puts-append (codes "refused ") said _ _ _ c.put.ensures.puts c.put-2.ensures.puts)
