-- How far the trail of a hall was written, and what is still to be written of it.
use Rattle.std.specs.Prelude.{◌≡◌, ℕ, ◌≤◌, List, ◌++◌, drop, length, take}
use Rattle.bl_order.specs.Machine.{Event, start, state_after}
use Rattle.bl_hall.specs.Chronicle.{Chronicle, state_now}
use Rattle.bl_trail.specs.TrueText.{event_texts}
use Rattle.bl_audit.specs.Comes.{lines_from, works_in}
use Rattle.bl_audit.specs.declared.bookmark.Bookmark.{Bookmark}

-- the lines of the events after the first so many, without their LF
abbrev pub texts_after : Chronicle → ℕ → List (List ℕ)
texts_after hall n = event_texts (state_after (start hall.setup hall.limit) (take n hall.trail)) (drop n hall.trail)

-- So many events have happened, and the lines of sessions among those after them stand from the bookmark's place of the
-- order on.
pub record IsBookmark (hall : Chronicle) (bookmark : Bookmark) : Type 0 where
  pub written : bookmark.written ≤ length hall.trail
  pub place : bookmark.place ≤ length (state_now hall).order
  pub lines : lines_from (state_now hall) bookmark.place ≡ works_in (drop bookmark.written hall.trail)

-- the same hall when more events may have happened
pub record HasGrown (before after : Chronicle) : Type 0 where
  pub setup : after.setup ≡ before.setup
  pub limit : after.limit ≡ before.limit
  pub more : List Event
  pub trail : after.trail ≡ before.trail ++ more
