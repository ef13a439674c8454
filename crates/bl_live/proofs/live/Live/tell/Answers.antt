use Rattle.std.proofs.Common.{refl}
use Rattle.bl_live.proofs.Notices.{live-ended, live-none}
use Rattle.bl_live.proofs.live.Live.tell.Goals as goal

pub returns-then-come : goal.returns-then-come
returns-then-come g c = live-ended c.args.ended _ _ c.tell_ended.ensures.puts

pub returns-else-come : goal.returns-else-come
returns-else-come g c = live-none _ _ refl
