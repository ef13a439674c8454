use Rattle.std.specs.Prelude.{is_some}
use Rattle.std.specs.Result.{result_err}
use Rattle.bl_alone.proofs.Sitting.{begins, sat}
use Rattle.bl_alone.proofs.at_end.sit_and_keep.Goals as goal

-- the session's fault is told, and then what became of the trail
pub returns-clause-run : goal.returns-clause-run
returns-clause-run g c =
    let served = c.sit-session.result.0 in
    let kept = c.sit-session.result.1 in
    sat c.args.run.now.limit c.args.begun.at_end.trail.name.now c.args.begun.setup (result_err served) _ _ c.sit-session.ensures.ended (is_some kept)
    (begins served kept c.sit-session.ensures.kept) c.tell_served-status.result c.keep_session.result _ _ _
    c.tell_served-status.ensures.status c.tell_served-status.ensures.puts c.keep_session.ensures.trail
