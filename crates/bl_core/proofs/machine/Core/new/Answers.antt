use Rattle.std.proofs.Common.{refl}
use Rattle.bl_core.proofs.Begun.{kept-begun}
use Rattle.bl_core.proofs.machine.Core.new.Goals as goal

pub invariant_of-result : goal.invariant_of-result
invariant_of-result c =
    kept-begun
    (record {
      alloc = c.args.alloc;
      setup = c.args.setup;
      limit = c.args.limit;
      weight = 0;
      sessions = c.in-Ok.beginning.sessions;
      places = c.in-Ok.beginning.places;
      queues = c.in-Ok.beginning.queues;
      policy = c.in-Ok.beginning.policy;
      shelves = c.in-Ok.beginning.shelves;
    })
    (record { begins = c.in-Ok.ensures; weight = refl })
