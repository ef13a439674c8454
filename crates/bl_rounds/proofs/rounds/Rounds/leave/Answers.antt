use Rattle.std.proofs.Common.{◌≡◌, ◌<◌, List, get_or, length, subst, true}
use Rattle.bl_rounds.specs.Seats.{leaves}
use Rattle.bl_rounds.specs.declared.seat.Seat.{Seat}
use Rattle.bl_rounds.proofs.Tables.{one_out, seated_out}
use Rattle.bl_rounds.proofs.rounds.Rounds.leave.Goals as goal

pub invariant_of-self : goal.invariant_of-self
invariant_of-self g c =
    let i = c.in_ok-i.i in
    let seats = c.self.inside.seats.items in
    let low = subst (λ (xs : List Seat). i < length xs) c.deref.ensures.value c.in_ok-i.ensures.some.0 in
    seated_out g.S.Stream.remaining g.S.Stream.contents c.self.inside.crowd c.part_with-gone.new.crowd seats c.remove-left.new.self.items c.self.inside.hand i low c.remove-left.ensures.items
    c.part_with-gone.ensures.without c.self.invariant

pub returns-clause-out : goal.returns-clause-out
returns-clause-out g c =
    let i = c.in_ok-i.i in
    let seats = c.self.inside.seats.items in
    let low = subst (λ (xs : List Seat). i < length xs) c.deref.ensures.value c.in_ok-i.ensures.some.0 in
    one_out g.S.Stream.remaining g.S.Stream.contents (λ seat. leaves seat.stage ≡ true) c.part_with-gone.result.number c.self.inside.crowd c.part_with-gone.new.crowd seats c.remove-left.new.self.items
    c.self.inside.time c.args.self.now i c.index.result.now c.self.view_is low c.index.ensures c.part_with-gone.ensures.number
    (subst (λ (xs : List Seat). (d : Seat) → leaves (get_or xs i d).stage ≡ true) c.deref.ensures.value c.in_ok-i.ensures.some.1)
    c.part_with-gone.ensures.without c.remove-left.ensures.items
