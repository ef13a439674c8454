use Rattle.std.proofs.Common.{refl}
use Rattle.bl_live.proofs.Notices.{live-clock, live-none}
use Rattle.bl_live.proofs.live.Live.look_at_clock.Goals as goal

pub returns-in_default : goal.returns-in_default
returns-in_default g c = live-none _ _ refl

pub returns : goal.returns
returns g c = live-clock c.keep_up-faults.result _ _ c.tell_clock.ensures
