use Rattle.std.proofs.Common.{rules, ◌<◌, ◌≡◌, List, Some, sym, ap, ◌∙◌, subst}
use Rattle.bl_hall.specs.Chronicle.{Chronicle}
use Rattle.bl_order.specs.Machine.{Event}
use Rattle.bl_gate.specs.Counts.{StartsWith}
use Rattle.bl_gate.specs.Gates.{hall_with}
use Rattle.bl_gate.specs.Views.{View, brings, drew, entered}
use Rattle.bl_gate.specs.Turns.{Sat, Comes, EndsItsOwn, NoEndBehind}
use Rattle.bl_gate.proofs.Steps.{looks}
use Rattle.bl_gate.proofs.Hands.{holding, held_is}
use Rattle.bl_gate.proofs.gate.Gate.enter.Goals as goal

pub load-served-requires : goal.load-served-requires
load-served-requires g c =
    let m : Sat = c.loop.seat.me in
    let e : m.0 ≡ drew c.args.seat.now.me.0 c.draw-ticket.result = ap (λ (x : Sat). x.0) c.loop.invariant.1 ∙ c.draw-ticket.ensures.drew in
    let idle = c.requires.idle in (
      search rules,
      search rules,
      looks _ _ _ c.draw-ticket.result m (ap (λ (v : View). v.ticket) e) (ap (λ (v : View). v.inside) e ∙ idle.0.1) (subst (λ (v : View). 0 < v.parts) (sym e) idle.0.3)
          (ap (λ (x : Sat). x.1) c.loop.invariant.1 ∙ (c.draw-ticket.ensures.same.1 ∙ idle.1)),
    )

pub exchange-requires : goal.exchange-requires
exchange-requires g c =
    let m : Sat = c.loop.seat.me in
    let e : m.0 ≡ drew c.args.seat.now.me.0 c.draw-ticket.result = ap (λ (x : Sat). x.0) c.loop.invariant.1 ∙ c.draw-ticket.ensures.drew in
    let turn : m.0.ticket ≡ Some c.load-served.result = ap (λ (v : View). v.ticket) e ∙ ap Some (sym c.if-served-ticket.true) in
    let came : Comes m c.load-served.new.seat.me = c.load-served.ensures.2.0 turn in
    (search rules, holding _ _ came.4)

pub returns-then-served-ticket-clause-turn : goal.returns-then-served-ticket-clause-turn
returns-then-served-ticket-clause-turn g c =
    let m : Sat = c.loop.seat.me in
    let e : m.0 ≡ drew c.args.seat.now.me.0 c.draw-ticket.result = ap (λ (x : Sat). x.0) c.loop.invariant.1 ∙ c.draw-ticket.ensures.drew in
    let turn : m.0.ticket ≡ Some c.load-served.result = ap (λ (v : View). v.ticket) e ∙ ap Some (sym c.if-served-ticket.true) in
    let came : Comes m c.load-served.new.seat.me = c.load-served.ensures.2.0 turn in
    let same : Some c.unwrap.result ≡ Some (hall_with m.0.base came.0) = sym c.unwrap.ensures ∙ held_is _ _ _ came.4 c.exchange.ensures.2 in
    let it : c.unwrap.result ≡ hall_with m.0.base came.0 = cc in
    let known : came.0 ≡ c.unwrap.result.trail = sym (ap (λ (h : Chronicle). h.trail) it) in
    (c.draw-ticket.result, ap (λ (x : Sat). x.0) c.exchange.ensures.3 ∙ (came.3 ∙ (λ i. entered (e i) (known i))))

pub returns-then-served-ticket-clause-seen : goal.returns-then-served-ticket-clause-seen
returns-then-served-ticket-clause-seen g c =
    let m : Sat = c.loop.seat.me in
    let e : m.0 ≡ drew c.args.seat.now.me.0 c.draw-ticket.result = ap (λ (x : Sat). x.0) c.loop.invariant.1 ∙ c.draw-ticket.ensures.drew in
    let turn : m.0.ticket ≡ Some c.load-served.result = ap (λ (v : View). v.ticket) e ∙ ap Some (sym c.if-served-ticket.true) in
    let came : Comes m c.load-served.new.seat.me = c.load-served.ensures.2.0 turn in
    let same : Some c.unwrap.result ≡ Some (hall_with m.0.base came.0) = sym c.unwrap.ensures ∙ held_is _ _ _ came.4 c.exchange.ensures.2 in
    let it : c.unwrap.result ≡ hall_with m.0.base came.0 = cc in
    let known : came.0 ≡ c.unwrap.result.trail = sym (ap (λ (h : Chronicle). h.trail) it) in
    subst (λ (t : List Event). StartsWith t c.args.seat.now.me.0.seen) known (subst (λ (v : View). StartsWith came.0 v.seen) e came.1)

pub returns-then-served-ticket-clause-no_end : goal.returns-then-served-ticket-clause-no_end
returns-then-served-ticket-clause-no_end g c =
    let m : Sat = c.loop.seat.me in
    let e : m.0 ≡ drew c.args.seat.now.me.0 c.draw-ticket.result = ap (λ (x : Sat). x.0) c.loop.invariant.1 ∙ c.draw-ticket.ensures.drew in
    let turn : m.0.ticket ≡ Some c.load-served.result = ap (λ (v : View). v.ticket) e ∙ ap Some (sym c.if-served-ticket.true) in
    let came : Comes m c.load-served.new.seat.me = c.load-served.ensures.2.0 turn in
    let same : Some c.unwrap.result ≡ Some (hall_with m.0.base came.0) = sym c.unwrap.ensures ∙ held_is _ _ _ came.4 c.exchange.ensures.2 in
    let it : c.unwrap.result ≡ hall_with m.0.base came.0 = cc in
    let known : came.0 ≡ c.unwrap.result.trail = sym (ap (λ (h : Chronicle). h.trail) it) in
    subst (λ (t : List Event). NoEndBehind (brings c.args.seat.now.me.0) t) known (subst (λ (v : View). NoEndBehind (brings v) came.0) e came.5)

pub returns-then-served-ticket-clause-ends : goal.returns-then-served-ticket-clause-ends
returns-then-served-ticket-clause-ends g c =
    let m : Sat = c.loop.seat.me in
    let e : m.0 ≡ drew c.args.seat.now.me.0 c.draw-ticket.result = ap (λ (x : Sat). x.0) c.loop.invariant.1 ∙ c.draw-ticket.ensures.drew in
    let turn : m.0.ticket ≡ Some c.load-served.result = ap (λ (v : View). v.ticket) e ∙ ap Some (sym c.if-served-ticket.true) in
    let came : Comes m c.load-served.new.seat.me = c.load-served.ensures.2.0 turn in
    let same : Some c.unwrap.result ≡ Some (hall_with m.0.base came.0) = sym c.unwrap.ensures ∙ held_is _ _ _ came.4 c.exchange.ensures.2 in
    let it : c.unwrap.result ≡ hall_with m.0.base came.0 = cc in
    let known : came.0 ≡ c.unwrap.result.trail = sym (ap (λ (h : Chronicle). h.trail) it) in
    subst (λ (t : List Event). EndsItsOwn t c.args.seat.now.me.0.own) known (subst (λ (v : View). EndsItsOwn came.0 v.own) e came.6)
