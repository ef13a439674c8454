-- What is still to be taken of the replies to a block.
use Rattle.std.specs.Prelude.{ℕ, ◌≤◌, List, [], nat_le, if◌then◌else◌}
use Rattle.bl_order.specs.Machine.{State}
use Rattle.bl_hall.specs.Chronicle.{state_now}
use Rattle.bl_wire.specs.Replies.{line_text}
use Rattle.bl_session.specs.Blocks.{Gives}
use Rattle.bl_session.specs.Pages.{IsOpen}
use Rattle.bl_session.specs.declared.talk.Told.{Told}

-- the replies to the lines above the last one that was told
abbrev pub left_above : State → ℕ → ℕ → ℕ → List ℕ
left_above x session upto k = if nat_le k upto then [] else line_text x session k

abbrev pub left_of : Told → ℕ → List ℕ
left_of told = left_above (state_now told.pages.now.hall) told.pages.now.session told.upto

-- those above an ordinal may be taken
pub record Stands (told : Told) (n : ℕ) : Type 0 where
  pub upto : told.upto ≤ n
  pub opened : IsOpen told.behind.now.setup told.pages.now
  pub gives : Gives (state_now told.pages.now.hall) told.pages.now.session told.block n
