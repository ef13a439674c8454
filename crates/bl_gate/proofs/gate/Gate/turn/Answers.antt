use Rattle.std.proofs.Common.{◌≡◌, ◌<◌, sym, ap, ◌∙◌, subst, refl}
use Rattle.bl_hall.specs.Chronicle.{Chronicle, HasTrail}
use Rattle.bl_gate.specs.Gates.{PassView, GateId, KeepsInHand}
use Rattle.bl_gate.specs.Views.{View, went}
use Rattle.bl_gate.specs.Seats.{pass_of}
use Rattle.bl_gate.specs.Turns.{HasGoneOn}
use Rattle.bl_gate.proofs.Holding.{begun_keeps}
use Rattle.bl_gate.proofs.Turned.{begun, gone_on_none}
use Rattle.bl_gate.proofs.gate.Gate.turn.Goals as goal

pub invariant_of-result : goal.invariant_of-result
invariant_of-result g c =
    let came = c.enter.ensures.turn.1 in
    let v : View = c.into_seat-seat.result.0.me.0 in (
      (ap (λ (u : View). u.inside) came, ap (λ (u : View). u.met) came, subst (λ (u : View). 0 < u.parts) (sym came) c.into_seat-seat.ensures.idle.0.3),
      c.enter.ensures.hands,
      ap (λ (u : View). u.parts) came ∙ c.into_seat-seat.ensures.parts,
      c.enter.ensures.gate ∙ (ap (λ (q : PassView). q.gate.table) c.into_seat-seat.ensures.same ∙ ap (λ (i : GateId). i.table) c.requires.gate),
      subst (HasGoneOn c.enter.new.seat.me.0) (sym c.into_box-hall.ensures)
          (gone_on_none v c.enter.new.seat.me.0 c.enter.ensures.turn.0 c.enter.result came c.enter.ensures.hall c.enter.ensures.trail c.enter.ensures.ends),
    )

pub returns-clause-in_hand : goal.returns-clause-in_hand
returns-clause-in_hand g c =
    let p : PassView = pass_of c.into_seat-seat.result.0.table_id c.into_seat-seat.result.0.me.0 c.into_seat-seat.result.1 in
    let q : PassView = pass_of c.enter.new.seat.table_id (went c.enter.new.seat.me.0 c.into_box-hall.result.value.trail) c.into_seat-seat.result.1 in
    let view : q ≡ record p { seen = c.enter.result.trail } =
    ap (λ (h : Chronicle). pass_of c.enter.new.seat.table_id (went c.enter.new.seat.me.0 h.trail) c.into_seat-seat.result.1) c.into_box-hall.ensures
    ∙ begun p c.into_seat-seat.result.0.table_id c.enter.new.seat.table_id c.into_seat-seat.result.0.me.0 c.enter.new.seat.me.0 c.into_seat-seat.result.1 c.enter.ensures.turn.0 c.enter.result refl c.enter.ensures.gate
    c.enter.ensures.turn.1 in
    subst (λ (x : PassView). KeepsInHand x q) c.into_seat-seat.ensures.same
    (subst (KeepsInHand p) (sym view) (begun_keeps p c.enter.result.trail c.enter.ensures.seen (subst HasTrail c.enter.ensures.hall c.enter.ensures.trail) c.enter.ensures.no_end))
