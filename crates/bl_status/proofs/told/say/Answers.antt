use Rattle.std.proofs.Common.{rules, ◌≡◌, ◌++◌, ap, sym, ◌∙◌, codes, decimal}
use Rattle.bl_wire.proofs.PutLaws.{puts-is, puts-line}
use Rattle.bl_status.specs.Message.{message_of}
use Rattle.bl_status.proofs.told.say.Goals as goal

-- the line and the words of a fault of the setup
pub returns-in-Setup : goal.returns-in-Setup
returns-in-Setup g c =
    let said = c.as_bytes.result.now in
    let words : said ≡ c.in-Setup.kind.now = search rules in
    let front = (codes "setup " ++ decimal c.in-Setup.line) ++ codes ": " in
    record {
      puts = puts-is (front ++ said) (message_of c.args.fault.now) _ _ (ap (λ l. front ++ l) words ∙ sym (ap message_of c.in-Setup.is))
          (puts-line (codes "setup ") (decimal c.in-Setup.line) (codes ": ") said _ _ _ _ _
          c.put.ensures.puts c.put_number.ensures.puts c.put-in-Setup.ensures.puts c.put-in-Setup-2.ensures.puts);
    }
