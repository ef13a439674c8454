use Rattle.bl_live.proofs.Notices.{live-then}
use Rattle.bl_live.proofs.live.Live.look_at_files.Goals as goal

pub returns : goal.returns
returns g c = live-then _ _ _ c.look_at_clock.ensures c.look_at_log.ensures
