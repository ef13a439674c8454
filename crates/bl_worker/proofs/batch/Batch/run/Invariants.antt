use Rattle.std.proofs.Common.{◌≡◌, vec_len}
use Rattle.bl_worker.specs.Batches.{HasRoom, loans_in}
use Rattle.bl_worker.proofs.batch.Batch.run.Given as goal

-- what was lent was run, or is there still
abbrev pub invariant-loop-lent : goal.invariant-loop-lent
invariant-loop-lent g l = record {
  loans : loans_in l.self ≡ loans_in l.initial.self;
  room : HasRoom l.self;
  most : l.self.most ≡ l.initial.self.most;
}

abbrev pub decreases-loop-lent : goal.decreases-loop-lent
decreases-loop-lent g l = vec_len l.self.lents
