use Rattle.std.proofs.Common.{◌≡◌, length}
use Rattle.bl_rounds.specs.Going.{GoesOn, StandSo}
use Rattle.bl_rounds.specs.Seats.{HaveGoneOn}
use Rattle.bl_rounds.proofs.rounds.go_each.Given as goal

-- the same connections are there, and the first ones have gone on
abbrev pub invariant-loop-i : goal.invariant-loop-i
invariant-loop-i g l = record {
  goes : GoesOn g.S.Stream.remaining g.S.Stream.contents l.initial.crowd l.crowd l.initial.seats.items l.seats.items;
  len : length l.seats.items ≡ length l.initial.seats.items;
  stand : StandSo (length l.seats.items) l.seats.items l.crowd.members.items;
  gone : HaveGoneOn l.time l.i l.seats.items;
}
