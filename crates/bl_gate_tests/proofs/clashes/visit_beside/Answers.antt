use denote.Param.Send.{sendable}
use Rattle.std.proofs.Crossing.{crosses}
use Rattle.bl_gate.proofs.Crossing.{pass_send, gate_sync}
use Rattle.bl_gate_tests.proofs.clashes.Talk.TheSendSync as talks
use Rattle.bl_gate_tests.proofs.clashes.visit_beside.Goals as goal

pub join-visited-requires-send-F : goal.join-visited-requires-send-F
join-visited-requires-send-F g c κs within =
    let runtime = c.type_bounds.sync-R in
    search (pass_send, gate_sync, talks.the_sync, crosses, sendable) depth 60 fits 20000

pub join-visited-requires-send-A : goal.join-visited-requires-send-A
join-visited-requires-send-A g c κs within = search (pass_send, crosses, sendable) depth 60 fits 20000
