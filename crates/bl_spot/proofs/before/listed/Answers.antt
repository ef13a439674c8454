use Rattle.bl_spot.proofs.Failing.{pushed_next}
use Rattle.bl_spot.proofs.before.listed.Goals as goal

pub loop-place-preserved : goal.loop-place-preserved
loop-place-preserved c =
    pushed_next c.args.table.now c.loop-place.names.items _ c.loop-place.place c.name_at.result.now c.copy.result c.in_ok-push.ensures.items c.copy.ensures c.loop-place.invariant
    c.name_at.ensures
