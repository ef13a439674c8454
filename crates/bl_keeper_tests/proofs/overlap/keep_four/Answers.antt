use denote.Param.Send.{sendable}
use Rattle.std.proofs.Crossing.{crosses}
use Rattle.bl_gate.proofs.Crossing.{pass_send, gate_sync}
use Rattle.bl_keeper_tests.proofs.crowded.Meeting.TheSendSync as meetings
use Rattle.bl_keeper_tests.proofs.overlap.keep_four.Goals as goal

pub join-front-requires-send-F : goal.join-front-requires-send-F
join-front-requires-send-F g c κs within =
    let keep = c.type_bounds.sync-K in
    let runtime = c.type_bounds.sync-R in
    search (pass_send, gate_sync, meetings.the_sync, crosses, sendable) depth 60 fits 20000

pub join-front-requires-send-A : goal.join-front-requires-send-A
join-front-requires-send-A g c κs within = search (pass_send, crosses, sendable) depth 60 fits 20000
