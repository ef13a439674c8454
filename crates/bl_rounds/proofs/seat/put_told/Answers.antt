use Rattle.std.proofs.Common.{ap, true}
use Rattle.std.proofs.Math.Seq.{map-set_same}
use Rattle.bl_rounds.specs.declared.seat.Seat.{Seat}
use Rattle.bl_rounds.proofs.seat.put_told.Goals as goal

pub returns-clause-numbers : goal.returns-clause-numbers
returns-clause-numbers c =
    let f = λ (s : Seat). s.number in
    let was = c.index-seat.result.now in
    map-set_same f c.args.seats.now.items c.args.i (record was { greeted = true }) was (ap f c.index-seat.ensures)
