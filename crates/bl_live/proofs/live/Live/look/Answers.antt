use Rattle.std.proofs.Common.{refl}
use Rattle.bl_live.proofs.Notices.{live-none, live-then}
use Rattle.bl_live.proofs.live.Live.look.Goals as goal

pub returns-then-now-self : goal.returns-then-now-self
returns-then-now-self g c = live-none _ _ refl

pub loop-why-init : goal.loop-why-init
loop-why-init g c = live-none _ _ refl

pub loop-why-preserved : goal.loop-why-preserved
loop-why-preserved g c = live-then _ _ _ c.loop-why.invariant c.tell_again.ensures

pub returns : goal.returns
returns g c = live-then _ _ _ c.look_at_files.ensures c.loop-why.invariant
