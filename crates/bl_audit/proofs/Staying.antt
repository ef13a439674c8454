-- A bookmark stays right while more happens.
use Rattle.std.proofs.Common.{◌≡◌, ◌≤◌, ◌++◌, length, drop, sym, ◌∙◌, ap, subst, arith, length-append}
use Rattle.std.proofs.lemmas.List.{drop-append-le}
use Rattle.bl_order.specs.Machine.{State, start, state_after}
use Rattle.bl_hall.specs.Chronicle.{Chronicle, state_now}
use Rattle.bl_audit.specs.Bookmarks.{HasGrown, IsBookmark}
use Rattle.bl_audit.specs.Comes.{lines_from, works_in}
use Rattle.bl_audit.specs.declared.bookmark.Bookmark.{Bookmark}
use Rattle.bl_audit.proofs.Lines.{after-both, lines-later, order-later, works-both}

-- where a hall that has grown stands
pub grown-now : (before after : Chronicle) → (grown : HasGrown before after) → state_now after ≡ state_after (state_now before) grown.more
grown-now before after grown =
    ap (λ s. state_after (start s after.limit) after.trail) grown.setup
    ∙ ap (λ l. state_after (start before.setup l) after.trail) grown.limit
    ∙ ap (state_after (start before.setup before.limit)) grown.trail
    ∙ after-both (start before.setup before.limit) before.trail grown.more

pub stays : (before after : Chronicle) (b : Bookmark) → HasGrown before after → IsBookmark before b → IsBookmark after b
stays before after b grown is = record {
  written = omega (arith, is.written, ap length grown.trail, length-append before.trail grown.more);
  place = subst (λ (y : State). b.place ≤ length y.order) (sym now) (omega (arith, is.place, order-later (state_now before) grown.more));
  lines = ap (λ (y : State). lines_from y b.place) now
      ∙ lines-later (state_now before) grown.more b.place is.place
      ∙ ap (λ l. l ++ works_in grown.more) is.lines
      ∙ sym (works-both (drop b.written before.trail) grown.more)
      ∙ ap works_in (sym (drop-append-le b.written before.trail grown.more is.written) ∙ ap (drop b.written) (sym grown.trail));
}
  where
    now : state_now after ≡ state_after (state_now before) grown.more
    now = grown-now before after grown
