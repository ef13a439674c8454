use Rattle.std.proofs.Common.{rules, ◌≡◌, ◌++◌, ap, codes, decimal}
use Rattle.bl_wire.proofs.PutLaws.{puts-is}
use Rattle.bl_log.specs.Lines.{event_text}
use Rattle.bl_log.proofs.Noting.{puts-five}
use Rattle.bl_log.proofs.log.put_note.Goals as goal

pub returns : goal.returns
returns g c =
    let note = c.args.note.now in
    let said = c.as_bytes.result.now in
    let from : said ≡ note.from.now = search rules in
    puts-is ((((decimal note.connection ++ codes " ") ++ said) ++ codes " ") ++ event_text note.event) _ _ _
    (ap (λ l. (((decimal note.connection ++ codes " ") ++ l) ++ codes " ") ++ event_text note.event) from)
    (puts-five (decimal note.connection) (codes " ") said (codes " ") (event_text note.event) _ _ _ _ _ _
    c.put_number.ensures.puts c.put.ensures.puts c.put-2.ensures.puts c.put-3.ensures.puts c.put_event.ensures)
