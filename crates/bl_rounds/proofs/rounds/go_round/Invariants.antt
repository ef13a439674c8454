use Rattle.std.proofs.Common.{◌≡◌, ◌⊎◌, length}
use Rattle.bl_worker.specs.Batches.{IsIdle}
use Rattle.bl_rounds.specs.Going.{StandSo, TurnsOn}
use Rattle.bl_rounds.specs.Seats.{AskNothing, HaveGoneOn}
use Rattle.bl_rounds.proofs.rounds.go_round.Given as goal

-- the same connections are there, what was begun was run, and after the first turn who may go on has just gone on
abbrev pub invariant-loop : goal.invariant-loop
invariant-loop g l = record {
  turns : TurnsOn g.S.Stream.remaining g.S.Stream.contents l.initial.crowd l.crowd l.initial.seats.items l.seats.items l.hand;
  stand : StandSo (length l.seats.items) l.seats.items l.crowd.members.items;
  time : l.hand.marks.time ≡ l.initial.hand.marks.time;
  gone : ((l.counter ≡ 0) × IsIdle l.hand.batch) ⊎ (HaveGoneOn l.hand.marks.time (length l.seats.items) l.seats.items × AskNothing (length l.seats.items) l.seats.items);
}
