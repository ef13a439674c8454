use denote.Param.Send.{sendable}
use Rattle.std.proofs.Crossing.{crosses}
use Rattle.std.proofs.option.Option.TheSendSync as options
use Rattle.bl_audit.proofs.bookmark.Bookmark.TheSendSync as bookmarks
use Rattle.bl_disk.proofs.device.DeviceError.TheSendSync as errors
use Rattle.bl_disk.proofs.log.Log.TheSendSync as logs
use Rattle.bl_gate.proofs.Crossing.{pass_send, gate_sync}
use Rattle.bl_record.proofs.journal.Journal.TheSendSync as journals
use Rattle.bl_keeper_tests.proofs.overlap.keep_all.Goals as goal

-- the keeper has its pass and its journal under a lock
pub keep_four-requires-sync-K : goal.keep_four-requires-sync-K
keep_four-requires-sync-K g c κs within =
    let gates = c.type_bounds.send-G in
    let devices = c.type_bounds.send-D in
    search (pass_send, gate_sync, journals.the_send, logs.the_send, bookmarks.the_send, errors.the_send, options.the_send, crosses, sendable) depth 60 fits 20000
