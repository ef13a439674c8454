use Rattle.std.proofs.Common.{refl}
use Rattle.bl_hall.proofs.Trails.{reached-now}
use Rattle.bl_hall.specs.Chronicle.{state_now}
use Rattle.bl_record.proofs.Going.{all-over, and-on, none-more}
use Rattle.bl_record.proofs.ending.run_waiting.Goals as goal

pub loop-n-init : goal.loop-n-init
loop-n-init c = (none-more c.args.hall.now c.requires.trail, c.requires.idle)

pub loop-n-preserved : goal.loop-n-preserved
loop-n-preserved c = (and-on c.args.hall.now c.loop-n.hall c.run_ready.new.hall c.loop-n.invariant.0 c.in_ok-run_ready.ensures.on, c.in_ok-run_ready.ensures.idle)

pub returns-clause-ended : goal.returns-clause-ended
returns-clause-ended c =
    let h = c.loop-n.hall in
    all-over (state_now h) (c.each_state_holds.ensures (state_now h) (reached-now h c.loop-n.invariant.0.trail)) c.loop-n.invariant.1 (c.in_default.ensures.none refl)
