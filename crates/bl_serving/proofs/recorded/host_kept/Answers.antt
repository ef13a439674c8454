use denote.Param.Send.{sendable}
use Rattle.std.proofs.Common.{◌∙◌, sym}
use Rattle.std.proofs.Crossing.{crosses}
use Rattle.std.proofs.option.Option.TheSendSync as options
use Rattle.bl_audit.proofs.bookmark.Bookmark.TheSendSync as bookmarks
use Rattle.bl_disk.proofs.device.DeviceError.TheSendSync as errors
use Rattle.bl_disk.proofs.log.Log.TheSendSync as logs
use Rattle.bl_gate.proofs.Crossing.{pass_send, gate_sync}
use Rattle.bl_gate.specs.Gates.{hall_seen}
use Rattle.bl_record.proofs.fault.JournalFault.TheSendSync as faults
use Rattle.bl_record.proofs.journal.Journal.TheSendSync as journals
use Rattle.bl_serving.proofs.Hosting.{grown_on, grown_self, kept_of, kept_on, starts_on}
use Rattle.bl_serving.proofs.recorded.host_kept.Goals as goal

-- the keeper's part has seen what was kept
pub new-keeper-requires-clause-kept : goal.new-keeper-requires-clause-kept
new-keeper-requires-clause-kept g c fine =
    kept_of c.args.pass c.split_pass-part.result _ _ c.requires.recorded.2
    (c.split_pass-part.ensures.gate.1 ∙ c.requires.gate.0 ∙ sym c.requires.gate.1) c.split_pass-part.ensures.new.0

-- the keeper has its pass and its journal under a lock
pub host-hosted-requires-sync-K : goal.host-hosted-requires-sync-K
host-hosted-requires-sync-K g c κs within =
    let gates = c.type_bounds.send-G in
    let devices = c.type_bounds.send-D in
    search (pass_send, gate_sync, journals.the_send, logs.the_send, bookmarks.the_send, errors.the_send, faults.the_send, options.the_send, crosses, sendable) depth 60 fits 20000

-- the sessions have gone on from what the pass had seen
pub returns-clause-grown : goal.returns-clause-grown
returns-clause-grown g c whole =
    let hosted = c.host-hosted in
    let met = c.meet.new.pass in
    grown_on (hall_seen c.args.pass) c.args.pass met (grown_self (hall_seen c.args.pass))
    (c.meet.ensures.gate ∙ c.requires.gate.0 ∙ sym c.requires.gate.1)
    (starts_on met.seen hosted.result.pass.seen c.split_pass-part.new.pass.seen c.args.pass.seen c.meet.ensures.seen.0 (hosted.ensures.whole whole).seen c.split_pass-part.ensures.old.0)

-- what the keeper's part has seen the pass has seen now
pub returns-clause-kept : goal.returns-clause-kept
returns-clause-kept g c fine =
    kept_on c.finish-journal.result.1 c.meet.new.pass _ _ (c.finish-journal.ensures.kept fine)
    (c.meet.ensures.gate ∙ c.requires.gate.0 ∙ sym c.finish-journal.ensures.gate) c.meet.ensures.seen.1
