use Rattle.std.proofs.Common.{inr}
use Rattle.bl_command.proofs.chain.serve_begun.Goals as goal

pub returns-in-Err-enter : goal.returns-in-Err-enter
returns-in-Err-enter g c = inr c.tell_entrance.ensures.status
