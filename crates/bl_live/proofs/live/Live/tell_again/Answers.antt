use Rattle.std.proofs.Common.{refl}
use Rattle.bl_live.proofs.Notices.{live-count, live-none}
use Rattle.bl_live.proofs.live.Live.tell_again.Goals as goal

pub returns-in_default : goal.returns-in_default
returns-in_default g c = live-none _ _ refl

pub returns : goal.returns
returns g c = live-count c.args.why c.in-Some.count _ _ c.tell_count.ensures.puts
