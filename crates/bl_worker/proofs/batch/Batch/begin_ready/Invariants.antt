use Rattle.std.proofs.Common.{◌≡◌, vec_len}
use Rattle.bl_hall.specs.Chronicle.{HasTrail}
use Rattle.bl_gate.specs.Gates.{Follows, PassView, hall_seen}
use Rattle.bl_worker.specs.Batches.{HasRoom, IsBatch, NoneRan, loans_in}
use Rattle.bl_worker.specs.Hands.{HasMade}
use Rattle.bl_worker.specs.Turns.{AddsTurnsAlone}
use Rattle.bl_worker.proofs.Batching.{AreInHand}
use Rattle.bl_worker.proofs.batch.Batch.begin_ready.Given as goal

-- so many were begun, and what runs is in hand
abbrev pub invariant-loop-count : goal.invariant-loop-count
invariant-loop-count l = record {
  follows : Follows l.initial.turn l.turn;
  trail : HasTrail (hall_seen l.turn);
  adds : AddsTurnsAlone l.initial.turn l.turn;
  ran : NoneRan l.self;
  batch : (first : PassView) → IsBatch first l.initial.turn (loans_in l.initial.self) → IsBatch first l.turn (loans_in l.self);
  room : HasRoom l.self;
  most : l.self.most ≡ l.initial.self.most;
  made : HasMade l.count l.initial.turn l.turn;
  ended : AreInHand l.over (vec_len l.self.lents) (vec_len l.initial.self.lents) l.count;
}
