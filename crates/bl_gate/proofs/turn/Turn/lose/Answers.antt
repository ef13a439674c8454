use Rattle.std.proofs.Common.{◌∙◌, sym, subst}
use Rattle.bl_order.specs.Machine.{Loses}
use Rattle.bl_gate.specs.Gates.{PassView, HasLoanInHand}
use Rattle.bl_hall.specs.Chronicle.{HasTrail}
use Rattle.bl_gate.specs.Views.{went}
use Rattle.bl_gate.specs.Seats.{pass_of}
use Rattle.bl_gate.proofs.Holding.{adds_other, ends_one, seen_lends, start_is_own, turned_keeps, loss_of_another}
use Rattle.bl_gate.proofs.Turned.{Turned, goes_on, turned, turned_follows, turned_own, turned_calls}
use Rattle.bl_gate.proofs.turn.Turn.lose.Goals as goal

-- the call in the turn
call : (c : goal.After-self-1) → Turned c.args.self.now c.deref_mut.result.now c.lose_lent.new.self (pass_of c.self.inside.seat.table_id (went c.self.inside.seat.me.0 c.lose_lent.new.self.trail) c.self.inside.parts)
call c = turned c.args.self.now c.self.inside.seat.table_id c.self.inside.seat.me.0 c.self.inside.parts c.self.inside.hall.value c.deref_mut.result.now c.lose_lent.new.self c.self.view_is c.self.invariant.4 c.deref_mut.ensures.value c.lose_lent.ensures.continues

pub lose_lent-requires-clause-running : goal.lose_lent-requires-clause-running
lose_lent-requires-clause-running c =
    (seen_lends (pass_of c.self.inside.seat.table_id (went c.self.inside.seat.me.0 c.self.inside.hall.value.trail) c.self.inside.parts) c.deref_mut.result.now c.args.unrun
    (c.deref_mut.ensures.value ∙ c.self.invariant.4.of_hall) (subst (λ (q : PassView). HasLoanInHand q c.args.unrun) (sym c.self.view_is) c.requires)).0

pub lose_lent-requires-clause-lent : goal.lose_lent-requires-clause-lent
lose_lent-requires-clause-lent c =
    (seen_lends (pass_of c.self.inside.seat.table_id (went c.self.inside.seat.me.0 c.self.inside.hall.value.trail) c.self.inside.parts) c.deref_mut.result.now c.args.unrun
    (c.deref_mut.ensures.value ∙ c.self.invariant.4.of_hall) (subst (λ (q : PassView). HasLoanInHand q c.args.unrun) (sym c.self.view_is) c.requires)).1

pub invariant_of-self : goal.invariant_of-self
invariant_of-self c = (
  c.self.invariant.0,
  c.self.invariant.1,
  c.self.invariant.2,
  c.self.invariant.3,
  goes_on c.self.inside.seat.me.0 c.self.inside.hall.value c.deref_mut.result.now c.lose_lent.new.self c.self.invariant.4 c.deref_mut.ensures.value c.lose_lent.ensures.continues
      (ends_one c.self.inside.hall.value c.deref_mut.result.now c.lose_lent.new.self _ c.deref_mut.ensures.value c.args.unrun.entry
      (λ n apart. adds_other _ _ (Loses c.args.unrun.entry) n c.lose_lent.ensures.change (loss_of_another c.args.unrun.entry n apart))
      (start_is_own (pass_of c.self.inside.seat.table_id (went c.self.inside.seat.me.0 c.self.inside.hall.value.trail) c.self.inside.parts) c.args.unrun
      (subst HasTrail c.self.invariant.4.of_hall c.self.invariant.4.legal) (subst (λ (q : PassView). HasLoanInHand q c.args.unrun) (sym c.self.view_is) c.requires))),
)

pub returns-clause-follows : goal.returns-clause-follows
returns-clause-follows c = turned_follows _ _ _ _ (call c)

pub returns-clause-own : goal.returns-clause-own
returns-clause-own c = turned_own _ _ _ _ (call c)

pub returns-clause-in_hand : goal.returns-clause-in_hand
returns-clause-in_hand c loan apart held =
    turned_keeps _ _ _ _ (call c) loan (adds_other _ _ (Loses c.args.unrun.entry) loan.entry c.lose_lent.ensures.change (loss_of_another c.args.unrun.entry loan.entry apart)) held

pub returns-clause-calls : goal.returns-clause-calls
returns-clause-calls c =
    turned_calls _ _ _ _ (call c) _ _ c.lose_lent.ensures.change (seen_lends c.args.self.now c.deref_mut.result.now c.args.unrun (call c).taken_is c.requires)
