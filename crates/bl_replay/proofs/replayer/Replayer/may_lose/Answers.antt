use Rattle.std.proofs.Common.{rules}
use Rattle.bl_replay.proofs.replayer.Replayer.may_lose.Goals as goal

pub returns : goal.returns
returns c = search rules
