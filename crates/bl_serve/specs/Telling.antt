-- What is still to be taken of the replies to a block.
use Rattle.std.specs.Prelude.{ℕ, ◌≤◌, All, List, [], nat_le, if◌then◌else◌}
use Rattle.bl_wire.specs.Named.{NamesAnswer}
use Rattle.bl_serve.specs.Told.{told_text, IsPage}
use Rattle.bl_serve.specs.declared.talk.Told.{Told}
use Rattle.bl_hall.specs.declared.reply.Reply as owned

-- the replies to the lines above the last one that was told
abbrev pub left_of : Told → ℕ → List ℕ
left_of block k = if nat_le k block.upto then [] else told_text block.names.now block.replies.items k

-- those above an ordinal may be taken
pub record Stands (block : Told) (n : ℕ) : Type 0 where
  pub upto : block.upto ≤ n
  pub page : IsPage block.replies.items block.next n
  pub named : All (λ (reply : owned.Reply). NamesAnswer block.names.now reply.answer) block.replies.items
