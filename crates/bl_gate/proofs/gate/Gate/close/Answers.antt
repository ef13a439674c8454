use Rattle.std.proofs.Common.{◌≡◌, Some, length, refl, ap, sym, ◌∙◌, subst}
use Rattle.std.specs.Prelude.{IsSome}
use Rattle.bl_hall.specs.Chronicle.{Chronicle}
use Rattle.bl_gate.specs.Counts.{StartsWith, times, within}
use Rattle.bl_gate.specs.Gates.{PassView}
use Rattle.bl_gate.specs.Gates.{hall_with}
use Rattle.bl_gate.proofs.Steps.{closes, closing_hall}
use Rattle.bl_gate.proofs.gate.Gate.close.Goals as goal

pub unwrap-requires : goal.unwrap-requires
unwrap-requires c =
    let all : c.into_seat-seat.result.0.me.0.parts ≡ 64 = c.into_seat-seat.ensures.parts ∙ (ap (λ (q : PassView). q.parts) c.into_seat-seat.ensures.same ∙ c.requires.all) in
    let end = closes _ _ _ _ _ c.into_seat-seat.ensures.idle.0 all c.close_with-closed.ensures.values.2 in
    subst IsSome (sym (closing_hall _ _ _ _ end c.take.ensures.value)) refl

pub returns-clause-hall : goal.returns-clause-hall
returns-clause-hall c =
    let all : c.into_seat-seat.result.0.me.0.parts ≡ 64 = c.into_seat-seat.ensures.parts ∙ (ap (λ (q : PassView). q.parts) c.into_seat-seat.ensures.same ∙ c.requires.all) in
    let end = closes _ _ _ _ _ c.into_seat-seat.ensures.idle.0 all c.close_with-closed.ensures.values.2 in
    let same : Some c.unwrap.result ≡ Some (hall_with c.args.pass.gate.base c.args.pass.seen) =
    sym c.unwrap.ensures ∙ (closing_hall _ _ _ _ end c.take.ensures.value ∙ ap (λ (q : PassView). Some (hall_with q.gate.base q.seen)) c.into_seat-seat.ensures.same) in
    let it : c.unwrap.result ≡ hall_with c.args.pass.gate.base c.args.pass.seen = cc in
    c.into_hall-hall.ensures ∙ it

pub returns-clause-begins : goal.returns-clause-begins
returns-clause-begins c =
    let all : c.into_seat-seat.result.0.me.0.parts ≡ 64 = c.into_seat-seat.ensures.parts ∙ (ap (λ (q : PassView). q.parts) c.into_seat-seat.ensures.same ∙ c.requires.all) in
    let end = closes _ _ _ _ _ c.into_seat-seat.ensures.idle.0 all c.close_with-closed.ensures.values.2 in
    let same : Some c.unwrap.result ≡ Some (hall_with c.args.pass.gate.base c.args.pass.seen) =
    sym c.unwrap.ensures ∙ (closing_hall _ _ _ _ end c.take.ensures.value ∙ ap (λ (q : PassView). Some (hall_with q.gate.base q.seen)) c.into_seat-seat.ensures.same) in
    let of : c.unwrap.result ≡ hall_with c.args.pass.gate.base c.args.pass.seen = cc in
    let it : c.into_hall-hall.result ≡ hall_with c.args.pass.gate.base c.args.pass.seen = c.into_hall-hall.ensures ∙ of in
    subst (λ (h : Chronicle). StartsWith h.trail c.args.pass.gate.base.trail) (sym it) (subst (λ (q : PassView). StartsWith q.seen q.gate.base.trail) c.into_seat-seat.ensures.same end.begins)

pub returns-clause-own : goal.returns-clause-own
returns-clause-own c p =
    let all : c.into_seat-seat.result.0.me.0.parts ≡ 64 = c.into_seat-seat.ensures.parts ∙ (ap (λ (q : PassView). q.parts) c.into_seat-seat.ensures.same ∙ c.requires.all) in
    let end = closes _ _ _ _ _ c.into_seat-seat.ensures.idle.0 all c.close_with-closed.ensures.values.2 in
    let same : Some c.unwrap.result ≡ Some (hall_with c.args.pass.gate.base c.args.pass.seen) =
    sym c.unwrap.ensures ∙ (closing_hall _ _ _ _ end c.take.ensures.value ∙ ap (λ (q : PassView). Some (hall_with q.gate.base q.seen)) c.into_seat-seat.ensures.same) in
    let of : c.unwrap.result ≡ hall_with c.args.pass.gate.base c.args.pass.seen = cc in
    let it : c.into_hall-hall.result ≡ hall_with c.args.pass.gate.base c.args.pass.seen = c.into_hall-hall.ensures ∙ of in
    subst (λ (h : Chronicle). times p c.args.pass.own ≡ within (length c.args.pass.gate.base.trail) (length h.trail) p) (sym it)
    (subst (λ (q : PassView). times p q.own ≡ within (length q.gate.base.trail) (length q.seen) p) c.into_seat-seat.ensures.same (end.owned p))
