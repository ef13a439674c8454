use Rattle.std.proofs.Common.{refl}
use Rattle.bl_live.proofs.Notices.{live-log, live-none}
use Rattle.bl_live.proofs.live.Live.look_at_log.Goals as goal

pub returns-in_default : goal.returns-in_default
returns-in_default g c = live-none _ _ refl

pub returns-then-is_cut : goal.returns-then-is_cut
returns-then-is_cut g c = live-log _ _ c.tell_cut.ensures

pub returns-else-is_cut : goal.returns-else-is_cut
returns-else-is_cut g c = live-none _ _ refl
