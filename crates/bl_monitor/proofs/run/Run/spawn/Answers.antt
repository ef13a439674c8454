use Rattle.std.proofs.Common.{refl}
use Rattle.bl_monitor.proofs.Runs.{run_spawned}
use Rattle.bl_monitor.proofs.run.Run.spawn.Goals as goal

pub returns-clause-ran : goal.returns-clause-ran
returns-clause-ran c = λ contents start so_far stands.
    run_spawned start so_far contents c.args.self.now stands _ c.args.behaviour refl c.in_ok-push.ensures.items
