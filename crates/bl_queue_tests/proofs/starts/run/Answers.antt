use Rattle.std.proofs.Common.{rules, inr, subst, sym}
use Rattle.bl_queue.specs.Entries.{MayStart, Runs}
use Rattle.bl_queue.specs.Queues.{Queue}
use Rattle.bl_queue_tests.proofs.Claims.{runs-started}
use Rattle.bl_queue_tests.proofs.starts.run.Goals as goal

pub end-requires : goal.end-requires
end-requires g c =
    let ready : MayStart c.args.queues.now.entries c.args.n = search rules in
    inr (subst (λ (q : Queue). Runs q.entries c.args.n) (sym c.started.ensures) (runs-started c.args.queues.now c.args.n ready.there))
