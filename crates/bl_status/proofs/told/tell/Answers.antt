use Rattle.std.proofs.Common.{refl, codes}
use Rattle.bl_wire.proofs.PutLaws.{puts-two}
use Rattle.bl_status.specs.Message.{message_of}
use Rattle.bl_status.proofs.told.tell.Goals as goal

pub returns-clause-puts : goal.returns-clause-puts
returns-clause-puts g c = puts-two _ (message_of c.args.fault.now) (codes "\n") _ _ _ refl c.say.ensures.puts c.put_out.ensures.puts
