use Rattle.std.proofs.Common.{codes, decimal}
use Rattle.bl_wire.proofs.PutLaws.{puts-line}
use Rattle.bl_wire.proofs.reply.put_refused.Goals as goal

pub returns : goal.returns
returns g c =
    puts-line (decimal c.args.ordinal) (codes " refused ") (c.args.words.now) (codes "\n") _ _ _ _ _
    c.put_number.ensures.puts c.put.ensures.puts c.put-2.ensures.puts c.put-3.ensures.puts
