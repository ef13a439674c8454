use Rattle.std.proofs.Common.{refl}
use Rattle.bl_live.proofs.Notices.{live-none}
use Rattle.bl_host.proofs.oversee.Overseer.take.Goals as goal

pub returns-in-Err-Timeout : goal.returns-in-Err-Timeout
returns-in-Err-Timeout g c = live-none _ _ refl

pub returns-in-Err-Disconnected : goal.returns-in-Err-Disconnected
returns-in-Err-Disconnected g c = live-none _ _ refl
