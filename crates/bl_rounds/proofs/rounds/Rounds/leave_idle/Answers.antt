use Rattle.std.proofs.Common.{◌<◌, ℕ, List, ap, get_or, length, subst}
use Rattle.bl_rounds.specs.Seats.{IsSilent, Table}
use Rattle.bl_rounds.specs.declared.seat.Seat.{Seat}
use Rattle.bl_rounds.proofs.Tables.{one_out, seated_out}
use Rattle.bl_rounds.proofs.rounds.Rounds.leave_idle.Goals as goal

pub invariant_of-self : goal.invariant_of-self
invariant_of-self g c =
    let i = c.in_ok-i.i in
    let seats = c.self.inside.seats.items in
    let low = subst (λ (xs : List Seat). i < length xs) c.deref.ensures.value c.in_ok-i.ensures.some.0 in
    seated_out g.S.Stream.remaining g.S.Stream.contents c.self.inside.crowd c.put_out-gone.new.crowd seats c.remove-seat.new.self.items c.self.inside.hand i low c.remove-seat.ensures.items
    c.put_out-gone.ensures.without c.self.invariant

pub returns-clause-out : goal.returns-clause-out
returns-clause-out g c =
    let i = c.in_ok-i.i in
    let seats = c.self.inside.seats.items in
    let low = subst (λ (xs : List Seat). i < length xs) c.deref.ensures.value c.in_ok-i.ensures.some.0 in
    one_out g.S.Stream.remaining g.S.Stream.contents (IsSilent c.args.self.now.time c.args.most) c.put_out-gone.result.number c.self.inside.crowd c.put_out-gone.new.crowd seats c.remove-seat.new.self.items
    c.self.inside.time c.args.self.now i c.index.result.now c.self.view_is low c.index.ensures c.put_out-gone.ensures.number
    (λ d. subst (λ (t : ℕ). IsSilent t c.args.most (get_or seats i d)) (ap (λ (t : Table). t.time) c.self.view_is)
    ((subst (λ (xs : List Seat). (e : Seat) → IsSilent c.self.inside.time c.args.most (get_or xs i e)) c.deref.ensures.value c.in_ok-i.ensures.some.1) d))
    c.put_out-gone.ensures.without c.remove-seat.ensures.items
