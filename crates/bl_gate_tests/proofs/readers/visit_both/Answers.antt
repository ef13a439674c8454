use denote.Param.Send.{sendable}
use Rattle.std.proofs.Crossing.{crosses}
use Rattle.bl_gate.proofs.Crossing.{pass_send, gate_sync}
use Rattle.bl_gate_tests.proofs.readers.HoldFirst.TheSendSync as holds
use Rattle.bl_gate_tests.proofs.readers.visit_both.Goals as goal

pub join-pass-requires-send-F : goal.join-pass-requires-send-F
join-pass-requires-send-F g c κs within =
    let runtime = c.type_bounds.sync-R in
    search (pass_send, gate_sync, holds.the_sync, crosses, sendable) depth 60 fits 20000

pub join-pass-requires-send-A : goal.join-pass-requires-send-A
join-pass-requires-send-A g c κs within = search (pass_send, crosses, sendable) depth 60 fits 20000
