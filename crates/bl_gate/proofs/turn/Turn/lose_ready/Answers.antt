use Rattle.std.proofs.Common.{◌≡◌, ◌∙◌, true, true≢false, refl, ap, sym, subst}
use Rattle.std.specs.Prelude.{IsOk}
use Rattle.std.specs.Result.{is_ok}
use Rattle.bl_order.specs.Machine.{MayStart, Loses}
use Rattle.bl_hall.specs.Chronicle.{Chronicle, state_now}
use Rattle.bl_gate.specs.Views.{went}
use Rattle.bl_gate.specs.Seats.{pass_of}
use Rattle.bl_gate.proofs.Results.{both, always}
use Rattle.bl_gate.proofs.Holding.{adds_nothing, adds_other, ends_none, ends_one, loss_of_another, ready_has_no_start, running_is_not_ready, seen_lends, turned_keeps}
use Rattle.bl_gate.proofs.Turned.{Turned, goes_on, turned, turned_follows, turned_own, turned_calls, turned_same, turned_seen}
use Rattle.bl_gate.proofs.turn.Turn.lose_ready.Goals as goal

-- the call in the turn
call : (c : goal.After-self-1) → Turned c.args.self.now c.deref_mut.result.now c.lose_ready.new.self (pass_of c.self.inside.seat.table_id (went c.self.inside.seat.me.0 c.lose_ready.new.self.trail) c.self.inside.parts)
call c = turned c.args.self.now c.self.inside.seat.table_id c.self.inside.seat.me.0 c.self.inside.parts c.self.inside.hall.value c.deref_mut.result.now c.lose_ready.new.self c.self.view_is c.self.invariant.4 c.deref_mut.ensures.value c.lose_ready.ensures.continues

pub invariant_of-self : goal.invariant_of-self
invariant_of-self c = (
  c.self.invariant.0,
  c.self.invariant.1,
  c.self.invariant.2,
  c.self.invariant.3,
  goes_on c.self.inside.seat.me.0 c.self.inside.hall.value c.deref_mut.result.now c.lose_ready.new.self c.self.invariant.4 c.deref_mut.ensures.value c.lose_ready.ensures.continues
      (always c.lose_ready.result
      (both c.lose_ready.result
      (λ _ is grown _.
      ends_one c.self.inside.hall.value c.deref_mut.result.now c.lose_ready.new.self _ c.deref_mut.ensures.value c.args.starved
      (λ n apart. adds_other _ _ (Loses c.args.starved) n grown (loss_of_another c.args.starved n apart))
      (λ q there.
      absurd
      (ready_has_no_start c.self.inside.hall.value c.args.starved c.self.invariant.4.legal
      (subst (λ (h : Chronicle). MayStart (state_now h) c.args.starved) c.deref_mut.ensures.value (c.lose_ready.ensures.ready.0 (subst IsOk (sym is) refl))) q there)))
      (λ _ _ _ same. ends_none c.self.inside.hall.value c.deref_mut.result.now c.lose_ready.new.self _ c.deref_mut.ensures.value (λ n. adds_nothing _ _ n same))
      c.lose_ready.ensures.ok c.lose_ready.ensures.err)),
)

pub returns-clause-follows : goal.returns-clause-follows
returns-clause-follows c = turned_follows _ _ _ _ (call c)

pub returns-clause-own : goal.returns-clause-own
returns-clause-own c = turned_own _ _ _ _ (call c)

pub returns-clause-in_hand : goal.returns-clause-in_hand
returns-clause-in_hand c loan held =
    turned_keeps _ _ _ _ (call c) loan
    (always c.lose_ready.result
    (both c.lose_ready.result
    (λ _ is grown _.
    adds_other _ _ (Loses c.args.starved) loan.entry grown
    (loss_of_another c.args.starved loan.entry
    (running_is_not_ready _ loan.entry c.args.starved (seen_lends c.args.self.now c.deref_mut.result.now loan (call c).taken_is held).0 (c.lose_ready.ensures.ready.0 (subst IsOk (sym is) refl)))))
    (λ _ _ _ same. adds_nothing _ _ loan.entry same)
    c.lose_ready.ensures.ok c.lose_ready.ensures.err))
    held

pub returns-clause-ok : goal.returns-clause-ok
returns-clause-ok c = both c.lose_ready.result
    (λ _ is grown _. turned_calls _ _ _ _ (call c) _ _ grown (c.lose_ready.ensures.ready.0 (subst IsOk (sym is) refl))) (λ _ _ _ _. tt)
    c.lose_ready.ensures.ok c.lose_ready.ensures.err

pub returns-clause-err : goal.returns-clause-err
returns-clause-err c = both c.lose_ready.result (λ _ _ _ _. tt)
    (λ _ is same _. (
      turned_same _ _ _ _ (call c) same,
      subst (λ (h : Chronicle). ¬ MayStart (state_now h) c.args.starved) (turned_seen _ _ _ _ (call c) same)
          (λ may. let e : is_ok c.lose_ready.result ≡ true = c.lose_ready.ensures.ready.1 may in true≢false (sym e ∙ ap is_ok is)),
    ))
    c.lose_ready.ensures.err c.lose_ready.ensures.err
