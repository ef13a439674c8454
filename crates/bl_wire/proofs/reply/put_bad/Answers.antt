use Rattle.std.proofs.Common.{codes, decimal}
use Rattle.bl_wire.specs.Texts.{fault_words}
use Rattle.bl_wire.proofs.PutLaws.{puts-line}
use Rattle.bl_wire.proofs.reply.put_bad.Goals as goal

pub returns : goal.returns
returns g c =
    puts-line (decimal c.args.ordinal) (codes " refused ") (fault_words c.args.fault.now) (codes "\n") _ _ _ _ _
    c.put_number.ensures.puts c.put.ensures.puts c.put_fault.ensures c.put-2.ensures.puts
