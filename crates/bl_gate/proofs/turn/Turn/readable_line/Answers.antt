use Rattle.std.proofs.Common.{inl, inr}
use Rattle.bl_order.specs.Machine.{Admits}
use Rattle.bl_gate.specs.Views.{went}
use Rattle.bl_gate.specs.Seats.{pass_of}
use Rattle.bl_gate.proofs.Results.{both, always}
use Rattle.bl_gate.proofs.Holding.{adds_by, ends_none, turned_keeps, line_is_no_end}
use Rattle.bl_gate.proofs.Turned.{Turned, goes_on, turned, turned_follows, turned_own, turned_calls}
use Rattle.bl_gate.proofs.turn.Turn.readable_line.Goals as goal

-- the call in the turn
call : (c : goal.After-self-1) → Turned c.args.self.now c.deref_mut.result.now c.readable_line.new.self (pass_of c.self.inside.seat.table_id (went c.self.inside.seat.me.0 c.readable_line.new.self.trail) c.self.inside.parts)
call c = turned c.args.self.now c.self.inside.seat.table_id c.self.inside.seat.me.0 c.self.inside.parts c.self.inside.hall.value c.deref_mut.result.now c.readable_line.new.self c.self.view_is c.self.invariant.4 c.deref_mut.ensures.value c.readable_line.ensures.continues

pub invariant_of-self : goal.invariant_of-self
invariant_of-self c = (
  c.self.invariant.0,
  c.self.invariant.1,
  c.self.invariant.2,
  c.self.invariant.3,
  goes_on c.self.inside.seat.me.0 c.self.inside.hall.value c.deref_mut.result.now c.readable_line.new.self c.self.invariant.4 c.deref_mut.ensures.value c.readable_line.ensures.continues
      (ends_none c.self.inside.hall.value c.deref_mut.result.now c.readable_line.new.self _ c.deref_mut.ensures.value
      (λ n. (adds_by _ _ (Admits c.args.session c.args.ordinal c.args.work) n
      (always c.readable_line.result
      (both c.readable_line.result (λ _ _ h _. inr h.1) (λ _ _ _ same. inl same) c.readable_line.ensures.ok c.readable_line.ensures.err))
      (line_is_no_end c.args.session c.args.ordinal c.args.work n)))),
)

pub returns-clause-follows : goal.returns-clause-follows
returns-clause-follows c = turned_follows _ _ _ _ (call c)

pub returns-clause-own : goal.returns-clause-own
returns-clause-own c = turned_own _ _ _ _ (call c)

pub returns-clause-in_hand : goal.returns-clause-in_hand
returns-clause-in_hand c loan held = turned_keeps _ _ _ _ (call c) loan (adds_by _ _ (Admits c.args.session c.args.ordinal c.args.work) loan.entry
    (always c.readable_line.result
    (both c.readable_line.result (λ _ _ h _. inr h.1) (λ _ _ _ same. inl same) c.readable_line.ensures.ok c.readable_line.ensures.err))
    (line_is_no_end c.args.session c.args.ordinal c.args.work loan.entry)) held

pub returns-clause-ok : goal.returns-clause-ok
returns-clause-ok c = both c.readable_line.result (λ _ _ h _. turned_calls _ _ _ _ (call c) _ _ h.1 h.0) (λ _ _ _ _. tt) c.readable_line.ensures.ok c.readable_line.ensures.ok
