use Rattle.std.proofs.Common.{ℕ, Bool, ap}
use Rattle.std.proofs.Math.Seq.{map-set_same}
use Rattle.bl_rounds.specs.declared.seat.Seat.{Seat}
use Rattle.bl_rounds.proofs.seat.put_stage.Goals as goal

pub returns-clause-who : goal.returns-clause-who
returns-clause-who c =
    let f : Seat → ℕ × Bool = λ s. (s.number, s.greeted) in
    let was = c.index-seat.result.now in
    map-set_same f c.args.seats.now.items c.args.i (record was { stage = c.args.stage; moved = c.args.moved }) was (ap f c.index-seat.ensures)
