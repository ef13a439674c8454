use Rattle.std.proofs.Common.{◌≡◌, ◌<◌, ◌∙◌, ap, false, get_or, subst, Option, Some, None}
use Rattle.std.specs.Prelude.{IfNone}
use Rattle.std.proofs.lemmas.List.{get_or_default}
use Rattle.bl_rounds.specs.declared.seat.Seat.{Seat}
use Rattle.bl_rounds.proofs.Seating.{session_at}
use Rattle.bl_rounds.proofs.rounds.greeting_of.Goals as goal

as_always : {A P : Type 0} (o : Option A) → P → IfNone o P
as_always None p = p
as_always (Some x) p = tt

pub returns-in_err-session-clause-none : goal.returns-in_err-session-clause-none
returns-in_err-session-clause-none g c =
    let members = c.args.crowd.now.members in
    let low = subst (λ n. c.args.i < n) (c.requires.seated ∙ members.ok.0) c.requires.within in
    as_always c.from_residual.result (λ d e untold. session_at members.items c.args.i e c.greeted.result low c.greeted.ensures ∙ c.in_err-session.was)

pub returns-clause-some : goal.returns-clause-some
returns-clause-some g c =
    let members = c.args.crowd.now.members in
    let low = subst (λ n. c.args.i < n) (c.requires.seated ∙ members.ok.0) c.requires.within in
    record {
      within = c.requires.within;
      number_is = λ d. ap (λ (s : Seat). s.number) (get_or_default c.args.seats.now c.args.i _ d c.requires.within);
      session_is = λ e. session_at members.items c.args.i e c.greeted.result low c.greeted.ensures ∙ c.in_ok-session.was;
      untold = λ d. subst (λ (s : Seat). s.greeted ≡ false) (get_or_default c.args.seats.now c.args.i _ d c.requires.within) c.if-seat.false;
    }
