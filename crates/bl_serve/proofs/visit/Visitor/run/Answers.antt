use Rattle.bl_worker.proofs.Adding.{adds_alone}
use Rattle.bl_serve.proofs.Quiet.{quiet_once, quiet_then}
use Rattle.bl_serve.proofs.visit.Visitor.run.Goals as goal

pub loop-n-preserved : goal.loop-n-preserved
loop-n-preserved g c =
    quiet_then c.args.pass.now c.loop-n.pass c.work_on-turn.new.pass c.loop-n.invariant
    (quiet_once c.loop-n.pass c.work_on-turn.new.pass c.work_on-turn.ensures.follows (adds_alone _ c.loop-n.pass c.work_on-turn.new.pass c.work_on-turn.ensures.adds) c.work_on-turn.ensures.trail)
