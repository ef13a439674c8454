use Rattle.std.proofs.Common.{◌≡◌, vec_len}
use Rattle.bl_hall.specs.Chronicle.{HasTrail}
use Rattle.bl_gate.specs.Gates.{Follows, PassView, hall_seen}
use Rattle.bl_worker.specs.Batches.{AllRan, HasRoom, IsBatch, loans_in}
use Rattle.bl_worker.specs.Turns.{AddsTurnsAlone}
use Rattle.bl_worker.proofs.batch.Batch.end_all.Given as goal

-- what has not ended is in hand still
abbrev pub invariant-loop-run : goal.invariant-loop-run
invariant-loop-run l = record {
  follows : Follows l.initial.turn l.turn;
  trail : HasTrail (hall_seen l.turn);
  adds : AddsTurnsAlone l.initial.turn l.turn;
  ran : AllRan l.self;
  batch : (first : PassView) → IsBatch first l.initial.turn (loans_in l.initial.self) → IsBatch first l.turn (loans_in l.self);
  room : HasRoom l.self;
  most : l.self.most ≡ l.initial.self.most;
}

abbrev pub decreases-loop-run : goal.decreases-loop-run
decreases-loop-run l = vec_len l.self.ran
