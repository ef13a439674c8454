use denote.Param.Send.{sendable}
use Rattle.std.proofs.Crossing.{crosses}
use Rattle.bl_command.proofs.Crossing.{file_send}
use Rattle.bl_command.proofs.chain.serve_entered.Goals as goal

pub serve_chain-requires-send-D : goal.serve_chain-requires-send-D
serve_chain-requires-send-D g c κs within =
    let file = c.type_bounds.send-R-File in
    search (file_send, crosses, sendable) depth 60 fits 20000
