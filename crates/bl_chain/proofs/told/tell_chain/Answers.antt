use Rattle.std.proofs.Common.{codes}
use Rattle.bl_wire.proofs.PutLaws.{puts-append}
use Rattle.bl_chain.specs.Telling.{chain_words}
use Rattle.bl_chain.proofs.told.tell_chain.Goals as goal

pub returns : goal.returns
returns g c = puts-append (chain_words c.args.folder.now c.args.fault.now) (codes "\n") _ _ _ c.put_words.ensures c.put_out.ensures.puts
