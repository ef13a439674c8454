use Rattle.std.proofs.Common.{◌≡◌, replicate}
use Rattle.std.specs.Vec.{vec_capacity}
use Rattle.bl_queue.specs.Holders.{no_cown}
use Rattle.bl_queue.proofs.cowns.free_cowns.Given as goal

abbrev pub invariant-loop-n : goal.invariant-loop-n
invariant-loop-n l = (l.cowns.items ≡ replicate l._n no_cown) × (vec_capacity l.cowns ≡ l.count)
