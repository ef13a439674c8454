use Rattle.bl_wire.specs.Watch.{end_state}
use Rattle.bl_keep.proofs.Ending.{told_trail}
use Rattle.bl_keep.proofs.ended.tell_trail.Goals as goal

-- why, and where it is or was to be, are told
pub returns-in-Err-clause-trail : goal.returns-in-Err-clause-trail
returns-in-Err-clause-trail g c =
    let E = g.E.Write.contents in
    told_trail c.args.trail.now.name.now c.in-Err.unkept c.args.status c.tell_unkept-own.result _ (end_state E c.args.errors.now) (end_state E c.tell_unkept-own.new.errors)
    c.tell_unkept-own.ensures.status c.status_behind-status.ensures c.tell_unkept-own.ensures.puts
