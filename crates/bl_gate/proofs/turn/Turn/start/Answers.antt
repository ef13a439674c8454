use Rattle.std.proofs.Common.{inl, inr, subst}
use Rattle.std.proofs.Common.{◌≡◌, ◌∙◌, Err, ap, sym}
use Rattle.std.specs.Prelude.{◌↔◌}
use Rattle.bl_order.specs.Machine.{MayStart, Starts}
use Rattle.bl_core.specs.declared.refusal.StartFault.TheVariants as start_fault
use Rattle.bl_gate.proofs.Following.{base_stays}
use Rattle.bl_gate.proofs.Holding.{gives_in_hand}
use Rattle.bl_hall.specs.Chronicle.{Chronicle, state_now}
use Rattle.bl_gate.specs.Views.{went}
use Rattle.bl_gate.specs.Seats.{pass_of}
use Rattle.bl_gate.proofs.Results.{both, always}
use Rattle.bl_gate.proofs.Holding.{adds_by, ends_none, turned_keeps, start_is_no_end}
use Rattle.bl_gate.proofs.Turned.{Turned, goes_on, turned, turned_follows, turned_legal, turned_own, turned_calls, turned_same, turned_seen}
use Rattle.bl_gate.proofs.turn.Turn.start.Goals as goal

-- the call in the turn
call : (c : goal.After-self-1) → Turned c.args.self.now c.deref_mut.result.now c.start.new.self (pass_of c.self.inside.seat.table_id (went c.self.inside.seat.me.0 c.start.new.self.trail) c.self.inside.parts)
call c = turned c.args.self.now c.self.inside.seat.table_id c.self.inside.seat.me.0 c.self.inside.parts c.self.inside.hall.value c.deref_mut.result.now c.start.new.self c.self.view_is c.self.invariant.4 c.deref_mut.ensures.value c.start.ensures.continues

pub invariant_of-self : goal.invariant_of-self
invariant_of-self c = (
  c.self.invariant.0,
  c.self.invariant.1,
  c.self.invariant.2,
  c.self.invariant.3,
  goes_on c.self.inside.seat.me.0 c.self.inside.hall.value c.deref_mut.result.now c.start.new.self c.self.invariant.4 c.deref_mut.ensures.value c.start.ensures.continues
      (ends_none c.self.inside.hall.value c.deref_mut.result.now c.start.new.self _ c.deref_mut.ensures.value
      (λ n. (adds_by _ _ (Starts c.args.n) n
      (always c.start.result
      (both c.start.result (λ _ _ h _. inr h.1) (λ _ _ _ same. inl same) c.start.ensures.ok c.start.ensures.err))
      (start_is_no_end c.args.n n)))),
)

pub returns-clause-follows : goal.returns-clause-follows
returns-clause-follows c = turned_follows _ _ _ _ (call c)

pub returns-clause-own : goal.returns-clause-own
returns-clause-own c = turned_own _ _ _ _ (call c)

pub returns-clause-in_hand : goal.returns-clause-in_hand
returns-clause-in_hand c loan held = turned_keeps _ _ _ _ (call c) loan (adds_by _ _ (Starts c.args.n) loan.entry
    (always c.start.result
    (both c.start.result (λ _ _ h _. inr h.1) (λ _ _ _ same. inl same) c.start.ensures.ok c.start.ensures.err))
    (start_is_no_end c.args.n loan.entry)) held

pub returns-clause-ok : goal.returns-clause-ok
returns-clause-ok c = both c.start.result (λ _ _ h _. turned_calls _ _ _ _ (call c) _ _ h.1 h.0) (λ _ _ _ _. tt) c.start.ensures.ok c.start.ensures.ok

pub returns-clause-err : goal.returns-clause-err
returns-clause-err c = both c.start.result (λ _ _ _ _. tt)
    (λ fault is same _. (
      turned_same _ _ _ _ (call c) same,
      subst (λ (h : Chronicle). (fault ≡ start_fault.NotReady) ↔ ¬ MayStart (state_now h) c.args.n) (turned_seen _ _ _ _ (call c) same)
          ((λ e. c.start.ensures.not_ready.0 (is ∙ ap Err e)), (λ no_start. let e : Err fault ≡ Err start_fault.NotReady = sym is ∙ c.start.ensures.not_ready.1 no_start in cc)),
    ))
    c.start.ensures.err c.start.ensures.err

pub returns-clause-gives : goal.returns-clause-gives
returns-clause-gives c = both c.start.result
    (λ begun _ h _. gives_in_hand _ _ c.args.n begun (turned_calls _ _ _ _ (call c) _ _ h.1 h.0) (base_stays _ _ (turned_follows _ _ _ _ (call c))) (turned_legal _ _ _ _ (call c)))
    (λ _ _ _ _. tt) c.start.ensures.ok c.start.ensures.ok
