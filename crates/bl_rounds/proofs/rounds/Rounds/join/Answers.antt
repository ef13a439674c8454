use Rattle.std.proofs.Common.{◌∙◌, ◌++◌, ◌∷◌, [], List, None, ap, false, length, refl, subst, sym}
use Rattle.bl_rounds.specs.Going.{StandSo}
use Rattle.bl_rounds.specs.declared.seat.Seat.{Seat}
use Rattle.bl_rounds.specs.declared.seat.Stage.TheVariants.{Goes}
use Rattle.bl_rounds.proofs.Tables.{one_more, seated_kept, seated_more}
use Rattle.bl_rounds.proofs.rounds.Rounds.join.Goals as goal

pub invariant_of-self : goal.invariant_of-self
invariant_of-self g c =
    let crowd = c.self.inside.crowd in
    let seats = c.self.inside.seats.items in
    seated_kept g.S.Stream.remaining g.S.Stream.contents crowd crowd seats seats c.open_hand.new.hand c.self.invariant.have.crowd_is refl refl refl refl c.self.invariant.have
    (c.open_hand.ensures.rest crowd.first.value crowd.pass c.self.invariant.rest) (c.open_hand.ensures.opened seats c.self.invariant.opened)

pub invariant_of-self-in_err-reserve : goal.invariant_of-self-in_err-reserve
invariant_of-self-in_err-reserve g c =
    let crowd = c.self.inside.crowd in
    let seats = c.self.inside.seats.items in
    seated_kept g.S.Stream.remaining g.S.Stream.contents crowd crowd seats c.reserve.new.self.items c.open_hand.new.hand c.self.invariant.have.crowd_is refl refl refl c.reserve.ensures.items
    c.self.invariant.have (c.open_hand.ensures.rest crowd.first.value crowd.pass c.self.invariant.rest) (c.open_hand.ensures.opened seats c.self.invariant.opened)

pub invariant_of-self-in_err-join : goal.invariant_of-self-in_err-join
invariant_of-self-in_err-join g c =
    let crowd = c.self.inside.crowd in
    let seats = c.self.inside.seats.items in
    seated_kept g.S.Stream.remaining g.S.Stream.contents crowd c.join.new.self seats c.reserve.new.self.items c.open_hand.new.hand c.join.ensures.crowd c.join.ensures.same.0 c.join.ensures.same.1
    c.in_err-join.ensures.err c.reserve.ensures.items c.self.invariant.have (c.open_hand.ensures.rest crowd.first.value crowd.pass c.self.invariant.rest)
    (c.open_hand.ensures.opened seats c.self.invariant.opened)

pub invariant_of-self-2 : goal.invariant_of-self-2
invariant_of-self-2 g c =
    let crowd = c.self.inside.crowd in
    let seats = c.reserve.new.self.items in
    let seat : Seat = record { number = c.args.number; stage = Goes; moved = None; greeted = false } in
    let ok = c.in_ok-join.ensures.ok in
    let stand = subst (λ (xs : List Seat). StandSo (length xs) xs crowd.members.items) (sym c.reserve.ensures.items) c.self.invariant.have.stand in
    seated_more g.S.Stream.remaining g.S.Stream.contents crowd c.join.new.self seats c.push_reserved.new.self.items seat c.open_hand.new.hand c.join.ensures.crowd c.join.ensures.same.0 c.join.ensures.same.1
    ok.0 ok.1 refl c.push_reserved.ensures.items (c.open_hand.ensures.rest crowd.first.value crowd.pass c.self.invariant.rest) c.in_ok-open_hand.ensures.ok
    (ap length c.reserve.ensures.items ∙ c.self.invariant.have.seated) stand

pub returns-clause-ok : goal.returns-clause-ok
returns-clause-ok g c =
    let crowd = c.self.inside.crowd in
    let seat : Seat = record { number = c.args.number; stage = Goes; moved = None; greeted = false } in
    let ok = c.in_ok-join.ensures.ok in
    one_more g.S.Stream.remaining g.S.Stream.contents c.args.number crowd c.join.new.self c.self.inside.seats.items c.push_reserved.new.self.items c.self.inside.time c.args.self.now seat ok.0
    c.self.view_is c.join.ensures.same.1 ok.1 (c.push_reserved.ensures.items ∙ ap (λ (xs : List Seat). xs ++ seat ∷ []) c.reserve.ensures.items) refl
