use Rattle.std.proofs.Common.{refl}
use Rattle.bl_eval.proofs.Runs.{spawn-run}
use Rattle.bl_eval.proofs.told.Told.spawn.Goals as goal

pub returns : goal.returns
returns c grants = spawn-run grants c.args.self.now _ c.args.behaviour refl c.in_ok-push.ensures.items
