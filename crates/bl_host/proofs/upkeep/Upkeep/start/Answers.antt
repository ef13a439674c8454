use denote.Param.Send.{sendable}
use Rattle.std.proofs.Crossing.{crosses}
use Rattle.bl_rounds.proofs.alarm.Alarms.TheSendSync as alarms
use Rattle.bl_host.proofs.upkeep.Upkeep.start.Goals as goal

pub spawn-started-requires-send-F : goal.spawn-started-requires-send-F
spawn-started-requires-send-F g c κs within =
    let keep = c.type_bounds.sync-K in
    let runtime = c.type_bounds.sync-T in
    search (alarms.the_sync, crosses, sendable) depth 60 fits 20000
