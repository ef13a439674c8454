use Rattle.std.proofs.Common.{◌≡◌, ◌<◌, ◌≤◌, ◌-◌, length, suc, drop, take, sym, refl, ap, ◌∙◌, subst, arith}
use Rattle.std.proofs.lemmas.List.{length-map}
use Rattle.bl_order.specs.Machine.{State}
use Rattle.bl_hall.specs.Chronicle.{kept_of, state_now}
use Rattle.bl_audit.specs.Comes.{Comes}
use Rattle.bl_audit.specs.Written.{WroteLine}
use Rattle.bl_audit.proofs.Trails.{as-many-kept, at-end, events_after, comes, event_at, found, kept-at, kept-after, leads-on, on_err, reached-on, state_at, steps-on, wrote-next, wrote-none, wrote-part}
use Rattle.bl_audit.proofs.trail.write_lines.Goals as goal

pub loop-event-init : goal.loop-event-init
loop-event-init g c = (wrote-none c.args.hall.now c.args.bookmark.now (g.W.Write.contents c.args.writer.now.inner) c.requires.bookmark, c.requires.fine)

pub put_event-requires-clause-coming : goal.put_event-requires-clause-coming
put_event-requires-clause-coming g c =
    let h = c.args.hall.now in
    let k = c.args.bookmark.now.written in
    let i = c.loop-event.event-index in
    let at : (i < length (events_after h k)) × (kept_of (event_at (events_after h k) i) ≡ c.event-item.result) =
    kept-at (events_after h k) _ i c.event-item.result (kept-after c.trail-trail.result.now k h.trail c.trail-trail.ensures.value) c.loop-event-test.true c.event-item.is in
    let here : state_now h ≡ c.core-core.result.now = sym c.core-core.ensures.value in (
      found (state_at h k) (events_after h k) i,
      event_at (events_after h k) i,
      drop (suc i) (events_after h k),
      subst (λ (y : State). Comes (found (state_at h k) (events_after h k) i) (event_at (events_after h k) i) (drop (suc i) (events_after h k)) y c.loop-event.place) (sym (leads-on h k) ∙ here)
          (comes (state_at h k) (events_after h k) i c.loop-event.place _ _ at.0 c.loop-event.invariant.0 (reached-on h k c.core-core.ensures.trail) (steps-on h k c.core-core.ensures.trail)),
      at.1,
    )

pub returns-in_err-place-clause-part : goal.returns-in_err-place-clause-part
returns-in_err-place-clause-part g c =
    let h = c.args.hall.now in
    let k = c.args.bookmark.now.written in
    let i = c.loop-event.event-index in
    let old = g.W.Write.contents c.args.writer.now.inner in
    let mid = g.W.Write.contents c.loop-event.writer.inner in
    let new = g.W.Write.contents c.put_event.new.writer.inner in
    let at : (i < length (events_after h k)) × (kept_of (event_at (events_after h k) i) ≡ c.event-item.result) =
    kept-at (events_after h k) _ i c.event-item.result (kept-after c.trail-trail.result.now k h.trail c.trail-trail.ensures.value) c.loop-event-test.true c.event-item.is in
    let here : state_now h ≡ c.core-core.result.now = sym c.core-core.ensures.value in
    on_err c.from_residual.result _
    (wrote-part (state_at h k) (events_after h k) i c.loop-event.place old mid at.0 c.loop-event.invariant.0 new
    (c.in_err-place.ensures.part (found (state_at h k) (events_after h k) i) (event_at (events_after h k) i) (drop (suc i) (events_after h k))
    (subst (λ (y : State). Comes (found (state_at h k) (events_after h k) i) (event_at (events_after h k) i) (drop (suc i) (events_after h k)) y c.loop-event.place) (sym (leads-on h k) ∙ here)
    (comes (state_at h k) (events_after h k) i c.loop-event.place old mid at.0 c.loop-event.invariant.0 (reached-on h k c.core-core.ensures.trail) (steps-on h k c.core-core.ensures.trail))) at.1))

pub loop-event-preserved : goal.loop-event-preserved
loop-event-preserved g c =
    let h = c.args.hall.now in
    let k = c.args.bookmark.now.written in
    let i = c.loop-event.event-index in
    let old = g.W.Write.contents c.args.writer.now.inner in
    let mid = g.W.Write.contents c.loop-event.writer.inner in
    let new = g.W.Write.contents c.put_event.new.writer.inner in
    let at : (i < length (events_after h k)) × (kept_of (event_at (events_after h k) i) ≡ c.event-item.result) =
    kept-at (events_after h k) _ i c.event-item.result (kept-after c.trail-trail.result.now k h.trail c.trail-trail.ensures.value) c.loop-event-test.true c.event-item.is in
    let here : state_now h ≡ c.core-core.result.now = sym c.core-core.ensures.value in (
      wrote-next (state_at h k) (events_after h k) i c.loop-event.place old mid at.0 c.loop-event.invariant.0 c.in_ok-place.place new
          (subst (λ (y : State). WroteLine (found (state_at h k) (events_after h k) i) (event_at (events_after h k) i) (drop (suc i) (events_after h k)) y c.in_ok-place.place mid new) (sym here ∙ leads-on h k)
          (c.in_ok-place.ensures.told (found (state_at h k) (events_after h k) i) (event_at (events_after h k) i) (drop (suc i) (events_after h k))
          (subst (λ (y : State). Comes (found (state_at h k) (events_after h k) i) (event_at (events_after h k) i) (drop (suc i) (events_after h k)) y c.loop-event.place) (sym (leads-on h k) ∙ here)
          (comes (state_at h k) (events_after h k) i c.loop-event.place old mid at.0 c.loop-event.invariant.0 (reached-on h k c.core-core.ensures.trail) (steps-on h k c.core-core.ensures.trail))) at.1)),
      c.in_ok-place.ensures.fine,
    )

pub returns-clause-moved : goal.returns-clause-moved
returns-clause-moved g c =
    let h = c.args.hall.now in
    let k = c.args.bookmark.now.written in
    let ks = c.trail-trail.result.now in
    let all : length ks ≡ length h.trail = ap length c.trail-trail.ensures.value ∙ length-map h.trail kept_of in
    let many : length (take (length ks - k) (drop k ks)) ≡ length (events_after h k) = as-many-kept ks k h.trail c.trail-trail.ensures.value in
    let over : length (events_after h k) ≤ c.loop-event.event-index = omega (arith, many, c.loop-event-test.false) in
    (at-end h k c.loop-event.place _ _ c.loop-event.event-index over c.loop-event.invariant.0 _ all refl, all)
