use Rattle.std.proofs.Common.{◌≢◌, ap, subst}
use Rattle.std.specs.List.{All}
use Rattle.bl_rounds.specs.Seats.{HasGoneOn, Table}
use Rattle.bl_rounds.specs.declared.seat.Seat.{Seat}
use Rattle.bl_rounds.specs.declared.seat.Stage.TheVariants.{Asks}
use Rattle.bl_rounds.proofs.Seating.{all_of}
use Rattle.bl_rounds.proofs.rounds.Rounds.round.Goals as goal

pub go_in-requires-clause-seats : goal.go_in-requires-clause-seats
go_in-requires-clause-seats g c = c.self.invariant.have

pub go_in-requires-clause-rest : goal.go_in-requires-clause-rest
go_in-requires-clause-rest g c =
    let crowd = c.self.inside.crowd in
    c.note_time.ensures.rest crowd.first.value crowd.pass c.self.invariant.rest

pub go_in-requires-clause-opened : goal.go_in-requires-clause-opened
go_in-requires-clause-opened g c = c.note_time.ensures.opened c.self.inside.seats.items c.self.invariant.opened

pub returns-clause-gone : goal.returns-clause-gone
returns-clause-gone g c =
    let seats = c.go_in.new.seats.items in
    let time = ap (λ (t : Table). t.time) c.self.view_is in
    subst (λ t. All (HasGoneOn t) seats) time (all_of (HasGoneOn c.self.inside.time) seats (c.go_in.ensures.gone c.self.inside.time c.note_time.ensures.time))

pub returns-clause-asks : goal.returns-clause-asks
returns-clause-asks g c = all_of (λ (s : Seat). s.stage ≢ Asks) c.go_in.new.seats.items c.go_in.ensures.asks
