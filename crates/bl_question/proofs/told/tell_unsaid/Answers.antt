use Rattle.std.proofs.Common.{codes, refl}
use Rattle.bl_wire.proofs.PutLaws.{puts-three}
use Rattle.bl_wire.specs.Texts.{fault_words}
use Rattle.bl_question.specs.Telling.{unsaid_line}
use Rattle.bl_question.proofs.told.tell_unsaid.Goals as goal

pub returns : goal.returns
returns g c =
    let fault = c.args.fault.now in
    puts-three (unsaid_line fault) (codes "cannot say: ") (fault_words fault) (codes "\n") _ _ _ _ refl
    c.put.ensures.puts c.put_fault.ensures c.put_out.ensures.puts
