use Rattle.std.proofs.Common.{subst}
use Rattle.bl_command.specs.Asked.{IsReadAs}
use Rattle.bl_command.proofs.serve.serve_asked.Goals as goal

-- over the setup that was read of these bytes
pub serve_given-requires-clause-read : goal.serve_given-requires-clause-read
serve_given-requires-clause-read g c κs within = subst (IsReadAs c.args.asked.bytes.now) c.in-Ok.is c.requires.read

pub returns-in-Ok-clause-at_end : goal.returns-in-Ok-clause-at_end
returns-in-Ok-clause-at_end g c is = rw c.in-Ok.is (c.serve_given.ensures.at_end is)

-- they are no setup
pub returns-in-Err-clause-fault : goal.returns-in-Err-clause-fault
returns-in-Err-clause-fault g c = rw c.in-Err.is c.tell.ensures.told
