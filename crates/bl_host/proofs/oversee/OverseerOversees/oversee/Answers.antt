use Rattle.std.proofs.Common.{refl}
use Rattle.bl_live.proofs.Notices.{live-none, live-then}
use Rattle.bl_host.proofs.oversee.OverseerOversees.oversee.Goals as goal

pub returns-then-sessions-eq0 : goal.returns-then-sessions-eq0
returns-then-sessions-eq0 g c = live-none _ _ refl

-- nothing was told yet
pub loop-init : goal.loop-init
loop-init g c = (tt, tt, live-none _ _ refl)

pub returns-then-not-take : goal.returns-then-not-take
returns-then-not-take g c = live-then _ _ _ (live-then _ _ _ c.loop.invariant.2 c.take.ensures) c.look_at_files.ensures

pub loop-preserved : goal.loop-preserved
loop-preserved g c = (tt, tt, live-then _ _ _ (live-then _ _ _ c.loop.invariant.2 c.take.ensures) c.look.ensures)
