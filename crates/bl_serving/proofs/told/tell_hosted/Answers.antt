use Rattle.std.proofs.Common.{refl}
use Rattle.std.specs.Prelude.{not}
use Rattle.std.specs.List.{flat_map}
use Rattle.bl_wire.proofs.PutLaws.{puts-three}
use Rattle.bl_status.specs.declared.fault.ProgramFault.TheVariants.{NoMemory}
use Rattle.bl_status.specs.Message.{fault_line}
use Rattle.bl_live.specs.Telling.{ended_line}
use Rattle.bl_serving.specs.Serving.{found}
use Rattle.bl_serving.proofs.Served.{status-two}
use Rattle.bl_serving.proofs.told.tell_hosted.Goals as goal

pub returns-clause-puts : goal.returns-clause-puts
returns-clause-puts g c =
    puts-three _ (flat_map fault_line (found (not c.args.whole) NoMemory)) (flat_map ended_line c.args.ended.now)
    (flat_map fault_line (found c.args.memory NoMemory)) _ _ _ _ refl
    c.tell_found-status.ensures.puts c.tell_sessions.ensures.puts c.tell_found.ensures.puts

pub returns-clause-status : goal.returns-clause-status
returns-clause-status g c =
    status-two c.args.whole c.args.memory _ _ c.tell_found-status.ensures.status c.tell_found.ensures.status
