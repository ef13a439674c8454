use Rattle.std.proofs.Common.{rules, ◌<◌, sym, ap, subst, ◌∙◌, arith, add-one, length}
use Rattle.bl_hall.specs.Chronicle.{Chronicle, state_now}
use Rattle.bl_session.specs.Pages.{HaveRun}
use Rattle.bl_session.proofs.PageLaws.{run_step}
use Rattle.bl_session.proofs.RunLaws.{limit_after}
use Rattle.bl_order.specs.Machine.{State, start}
use Rattle.bl_session.proofs.entries.run.Goals as goal

pub places-smaller : goal.places-smaller
places-smaller c =
    let h = c.places.pages.hall in
    let kept = ap (λ (h : Chronicle). h.limit) c.run_place.ensures.is in
    let limit = ap (λ (x : State). x.limit) c.core.ensures.value ∙ limit_after (start h.setup h.limit) h.trail in
    omega (arith, kept, limit, c.entries.ensures.limit, c.places-test.true)

pub places-preserved : goal.places-preserved
places-preserved c =
    let lt : c.places.pages.next < length (state_now c.places.pages.hall).order = omega (arith, c.places-test.true, c.entries.ensures.count, ap (λ (x : State). length x.order) c.core.ensures.value) in (
      subst (HaveRun c.args.pages.now.hall c.args.pages.now.next c.run_place.new.hall) (sym (add-one c.places.pages.next))
          (run_step c.args.pages.now.hall c.places.pages.hall c.run_place.new.hall c.args.pages.now.next c.places.pages.next c.places.invariant.0 lt c.run_place.ensures),
      c.places.invariant.1,
    )

pub overflow_add-pages : goal.overflow_add-pages
overflow_add-pages c = search rules

pub returns-clause-all : goal.returns-clause-all
returns-clause-all c = search rules
