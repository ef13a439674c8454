use Rattle.std.proofs.Common.{◌≡◌, ◌<◌, ◌⊎◌, ◌∙◌, false, inl, inr, subst, sym, take}
use Rattle.bl_allowance.specs.Buffers.{due_of, pending}
use Rattle.bl_allowance.specs.Lines.{AreWhole}
use Rattle.bl_allowance.proofs.Giving.{fit_gives, may_move}
use Rattle.bl_allowance.proofs.lines.LineStream.find_due.Goals as goal

pub returns-in-Some-clause-given : goal.returns-in-Some-clause-given
returns-in-Some-clause-given g c =
    let old = c.args.self.now.intake in
    let found = c.find.new.self in
    let new = c.take_up.new.self in
    let bytes = pending found.buffer in
    let offer = c.in_ok-offer.offer in
    let fit = c.in-Some.fit in
    let fits = subst (λ l. (fit ≡ offer) ⊎ ((1 < offer.lines) × AreWhole l 1 fit.bytes fit.lines × (fit.long ≡ false))) c.pending.ensures c.in-Some.ensures in
    let due' : due_of new.buffer ≡ take fit.bytes bytes = c.take_up.ensures.due in
    let stays = c.in_ok-offer.ensures.order in
    elim (fit_gives found.ended found.long bytes offer fit c.in_ok-offer.ensures.within c.in_ok-offer.ensures.given c.in_ok-offer.ensures.none fits) [
      | inl over ↦ inl ((c.take_up.ensures.pending ∙ over.1, inr (c.take_up.ensures.stream.1 ∙ over.0)), due' ∙ over.2)
      | inr may ↦ inr (may_move found.ended new.ended found.long old.long fit.long new.long fit.lines (take fit.bytes bytes) (due_of new.buffer) c.take_up.ensures.stream.1 (sym stays.long) c.take_up.ensures.long due' may)
    ]
