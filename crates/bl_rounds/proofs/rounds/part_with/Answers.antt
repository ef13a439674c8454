use Rattle.std.proofs.Common.{◌<◌, ◌∙◌, None, false, inl, inr, refl, subst}
use Rattle.bl_rounds.proofs.Going.{gone_early, gone_over}
use Rattle.bl_rounds.proofs.Seating.{at_index}
use Rattle.bl_rounds.proofs.rounds.part_with.Goals as goal

pub finish-requires-clause-over : goal.finish-requires-clause-over
finish-requires-clause-over g c d = (rw c.in-Over.is at c.requires.stands) d

pub returns-in-Over-clause-gone : goal.returns-in-Over-clause-gone
returns-in-Over-clause-gone g c =
    let crowd = c.args.crowd.now in
    let lt = subst (λ n. c.args.i < n) crowd.members.ok.0 c.requires.within in
    let over = rw c.in-Over.is at c.requires.stands in
    gone_over g.S.Stream.remaining g.S.Stream.contents crowd c.args.i
    (record { number = c.args.seat.number; stream = c.finish.result; fault = None; full = false; lines = c.lines.result; refused = c.refused.result; events = c.args.events })
    c.requires.crowd c.requires.follows lt refl refl (λ d. (over d).1) c.finish.ensures.stream c.lines.ensures c.refused.ensures c.finish.ensures.served

pub returns-in-Failed-clause-gone : goal.returns-in-Failed-clause-gone
returns-in-Failed-clause-gone g c =
    let crowd = c.args.crowd.now in
    let lt = subst (λ n. c.args.i < n) crowd.members.ok.0 c.requires.within in
    let d = (at_index crowd.members.items c.args.i lt).0 in
    let failed = rw c.in-Failed.is at c.requires.stands in
    gone_early g.S.Stream.remaining g.S.Stream.contents crowd.first.value c.put_out.result
    (elim (failed d) [
      | inl fault ↦ inl (fault.0, c.put_out.ensures.fault d ∙ fault.1)
      | inr full ↦ inr (c.put_out.ensures.full d ∙ full)
    ])
    c.put_out.ensures.gone
