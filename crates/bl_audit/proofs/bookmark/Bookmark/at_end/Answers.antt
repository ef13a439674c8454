use Rattle.std.proofs.Common.{◌≡◌, length, sym, ◌∙◌, ap, arith}
use Rattle.std.proofs.lemmas.List.{length-map}
use Rattle.bl_order.specs.Machine.{State}
use Rattle.bl_hall.specs.Chronicle.{kept_of, state_now}
use Rattle.bl_audit.proofs.Lines.{no-lines}
use Rattle.bl_audit.proofs.Trails.{none-in}
use Rattle.bl_audit.proofs.bookmark.Bookmark.at_end.Goals as goal

pub returns-clause-bookmark : goal.returns-clause-bookmark
returns-clause-bookmark c =
    let h = c.args.hall.now in
    let all : length c.trail.result.now ≡ length h.trail = ap length c.trail.ensures.value ∙ length-map h.trail kept_of in
    let places : c.entries.result ≡ length (state_now h).order = c.entries.ensures.count ∙ ap (λ (x : State). length x.order) c.core.ensures.value in
    record {
      written = omega (arith, all);
      place = omega (arith, places);
      lines = no-lines (state_now h) c.entries.result (omega (arith, places)) ∙ sym (none-in h.trail c.trail.result.now all);
    }
