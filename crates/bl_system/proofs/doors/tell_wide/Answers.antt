use Rattle.std.proofs.Common.{rules, ◌≡◌, ◌++◌, ap, codes}
use Rattle.bl_wire.proofs.PutLaws.{puts-is, puts-append}
use Rattle.bl_system.proofs.doors.tell_wide.Goals as goal

pub returns : goal.returns
returns g c =
    let said = c.as_bytes.result.now in
    let is : said ≡ c.args.name.now = search rules in
    puts-is ((codes "door " ++ said) ++ codes ": open to all\n") _ _ _ (ap (λ l. (codes "door " ++ l) ++ codes ": open to all\n") is)
    (puts-append (codes "door " ++ said) (codes ": open to all\n") _ _ _
    (puts-append (codes "door ") said _ _ _ c.put.ensures.puts c.put-2.ensures.puts) c.put_out.ensures.puts)
