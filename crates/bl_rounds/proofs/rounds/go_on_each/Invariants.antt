use Rattle.std.proofs.Common.{◌≡◌, length}
use Rattle.bl_rounds.specs.Going.{GoesOn, StandSo}
use Rattle.bl_rounds.specs.Seats.{AskNothing, HaveGoneOn}
use Rattle.bl_rounds.proofs.rounds.go_on_each.Given as goal

-- the same connections are there, and the first ones were looked at
abbrev pub invariant-loop-i : goal.invariant-loop-i
invariant-loop-i g l = record {
  goes : GoesOn g.S.Stream.remaining g.S.Stream.contents l.initial.crowd l.crowd l.initial.seats.items l.seats.items;
  len : length l.seats.items ≡ length l.initial.seats.items;
  stand : StandSo l.i l.seats.items l.crowd.members.items;
  gone : HaveGoneOn l.time (length l.initial.seats.items) l.initial.seats.items → HaveGoneOn l.time (length l.seats.items) l.seats.items;
  asks : AskNothing l.i l.seats.items;
}
