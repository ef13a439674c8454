use Rattle.std.proofs.Common.{rules, ◌≡◌, ℕ, ◌+◌, ◌<◌, ◌≤◌, ap, sym, ◌∙◌, subst, arith}
use Rattle.bl_hall.specs.Chronicle.{HasTrail}
use Rattle.bl_gate.specs.Counts.{times}
use Rattle.bl_gate.specs.Gates.{GateId, PassView, hall_with}
use Rattle.bl_gate.specs.Views.{View, heard, joined}
use Rattle.bl_gate.specs.Turns.{AreTold, Sat}
use Rattle.bl_gate.proofs.Steps.{joins, hears}
use Rattle.bl_gate.proofs.Holding.{met}
use Rattle.bl_gate.proofs.gate.Gate.meet.Goals as goal

pub join_seat-requires : goal.join_seat-requires
join_seat-requires c = (
  ap (λ (q : PassView). q.gate.table) (c.into_seat-seat.ensures.same ∙ c.take.ensures.taken) ∙ (ap (λ (i : GateId). i.table) c.requires.gate.0 ∙ sym (ap (λ (i : GateId). i.table) c.self.view_is)),
  ap (λ (q : PassView). q.gate.table) c.into_seat-theirs.ensures.same ∙ (ap (λ (i : GateId). i.table) c.requires.gate.1 ∙ sym (ap (λ (i : GateId). i.table) c.self.view_is)),
  c.into_seat-theirs.ensures.idle.1,
  search rules,
  joins _ _ _ _ _ c.into_seat-seat.ensures.idle.0 c.into_seat-theirs.ensures.idle.0,
)

pub load-requires : goal.load-requires
load-requires c =
    let e : c.join_seat.new.seat.me.0 ≡ joined c.into_seat-seat.result.0.me.0 c.into_seat-theirs.result.0.me.0 = ap (λ (m : Sat). m.0) c.join_seat.ensures.2 in
    let some_part : 0 < c.into_seat-seat.result.0.me.0.parts = c.into_seat-seat.ensures.idle.0.3 in
    (search rules, search rules, hears _ _ _ _ (ap (λ (v : View). v.inside) e) (subst (λ (v : View). 0 < v.parts) (sym e) (omega arith)))

pub returns-clause-in_hand : goal.returns-clause-in_hand
returns-clause-in_hand c =
    let v : View = c.into_seat-seat.result.0.me.0 in
    let u : View = c.into_seat-theirs.result.0.me.0 in
    let e : c.join_seat.new.seat.me.0 ≡ joined v u = ap (λ (m : Sat). m.0) c.join_seat.ensures.2 in
    let all = met c.args.pass.now c.args.other c.into_seat-seat.result.0.table_id c.into_seat-theirs.result.0.table_id c.load.new.seat.table_id v u c.load.new.seat.me.0 c.into_seat-seat.result.1 c.into_seat-theirs.result.1 (c.into_seat-seat.result.1 + c.into_seat-theirs.result.1)
    (c.into_seat-seat.ensures.same ∙ c.take.ensures.taken) c.into_seat-theirs.ensures.same
    (ap (λ (m : Sat). m.0) c.load.ensures.2.0 ∙ ap heard e)
    (subst (λ (x : View). AreTold x.base x.seen x.met) e c.load.ensures.2.1)
    (subst (λ (x : View). HasTrail (hall_with x.base x.seen)) e c.load.ensures.2.4)
    (subst (λ (x : View). (k : ℕ) → times k x.own ≤ 1) e c.load.ensures.2.2) in
    (all.first, all.second)

pub returns-clause-hands : goal.returns-clause-hands
returns-clause-hands c =
    let v : View = c.into_seat-seat.result.0.me.0 in
    let u : View = c.into_seat-theirs.result.0.me.0 in
    let e : c.join_seat.new.seat.me.0 ≡ joined v u = ap (λ (m : Sat). m.0) c.join_seat.ensures.2 in
    let all = met c.args.pass.now c.args.other c.into_seat-seat.result.0.table_id c.into_seat-theirs.result.0.table_id c.load.new.seat.table_id v u c.load.new.seat.me.0 c.into_seat-seat.result.1 c.into_seat-theirs.result.1 (c.into_seat-seat.result.1 + c.into_seat-theirs.result.1)
    (c.into_seat-seat.ensures.same ∙ c.take.ensures.taken) c.into_seat-theirs.ensures.same
    (ap (λ (m : Sat). m.0) c.load.ensures.2.0 ∙ ap heard e)
    (subst (λ (x : View). AreTold x.base x.seen x.met) e c.load.ensures.2.1)
    (subst (λ (x : View). HasTrail (hall_with x.base x.seen)) e c.load.ensures.2.4)
    (subst (λ (x : View). (k : ℕ) → times k x.own ≤ 1) e c.load.ensures.2.2) in
    all.apart
