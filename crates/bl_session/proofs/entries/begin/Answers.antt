use Rattle.std.proofs.Common.{◌≡◌, ◌∙◌, ap, arith, length, refl}
use Rattle.bl_order.specs.Machine.{State}
use Rattle.bl_hall.specs.Chronicle.{state_now}
use Rattle.bl_hall.proofs.Trails.{reached-now}
use Rattle.bl_session.specs.declared.entries.Pages.{Pages}
use Rattle.bl_session.proofs.PageLaws.{new_came}
use Rattle.bl_session.proofs.entries.begin.Goals as goal

pub returns-clause-start : goal.returns-clause-start
returns-clause-start c =
    let h = c.args.hall in
    let s : Pages = record { hall = h; next = c.entries-next.result; session = c.sessions_in-session.result } in
    let next : c.entries-next.result ≡ length (state_now h).order = c.entries-next.ensures.count ∙ ap (λ (x : State). length x.order) c.core.ensures.value in
    record {
      came = new_came c.args.setup h s refl c.requires.setup_is c.core.ensures.trail next c.sessions_in-session.ensures c.requires.room
          (c.each_place_has_a_phase.ensures (state_now h) (reached-now h c.core.ensures.trail)) c.requires.ended;
      settled = λ p low lt. absurd (omega (arith, low, lt, next));
    }
