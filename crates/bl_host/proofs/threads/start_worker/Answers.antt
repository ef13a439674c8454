use denote.Param.Send.{sendable}
use Rattle.std.proofs.Crossing.{crosses}
use Rattle.bl_worker.proofs.bell.Bell.TheSendSync as bells
use Rattle.bl_rounds.proofs.alarm.Alarms.TheSendSync as alarms
use Rattle.bl_host.proofs.shared.SharedQuota.TheSendSync as quotas
use Rattle.bl_gate.proofs.Crossing.{pass_send, gate_sync}
use Rattle.bl_host.proofs.threads.start_worker.Goals as goal

pub spawn_with-started-requires-send-F : goal.spawn_with-started-requires-send-F
spawn_with-started-requires-send-F g c κs within =
    let pause = c.type_bounds.sync-P in
    let keep = c.type_bounds.sync-K in
    let runtime = c.type_bounds.sync-T in
    search (pass_send, gate_sync, bells.the_sync, alarms.the_sync, quotas.the_sync, crosses, sendable) depth 60 fits 20000

pub spawn_with-started-requires-send-T : goal.spawn_with-started-requires-send-T
spawn_with-started-requires-send-T g c κs within = search (pass_send, crosses, sendable) depth 60 fits 20000
