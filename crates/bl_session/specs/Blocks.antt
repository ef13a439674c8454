-- The replies of a block, line by line.
use Rattle.std.specs.Prelude.{◌≡◌, ℕ, ◌<◌, ◌≤◌, IsTrue, nat_le, if◌then◌else◌, List, [], ◌∷◌, drop, length, map}
use Rattle.std.specs.Prelude.{slice_index_or, All, Option, Some, None}
use Rattle.bl_order.specs.Labels.{Reply}
use Rattle.bl_order.specs.Machine.{State, has_ended}
use Rattle.bl_hall.specs.Told.{reply_in, replies_above}
use Rattle.bl_session.specs.declared.block.Block.{Block}

-- the ordinal of the line that a reply is to, or to a descendant of
abbrev pub line_of : Reply → ℕ
line_of reply = slice_index_or reply.label 0 0

-- the replies in front to lines up to an ordinal
abbrev pub up_to : ℕ → List Reply → List Reply
up_to n [] = []
up_to n (reply ∷ replies) = if nat_le (line_of reply) n then reply ∷ up_to n replies else []

-- the replies behind those
abbrev pub behind : ℕ → List Reply → List Reply
behind n [] = []
behind n (reply ∷ replies) = if nat_le (line_of reply) n then behind n replies else reply ∷ replies

-- the replies to the places that have not been taken from a block
abbrev pub left_in : State → Block → List Reply
left_in x block = map (reply_in x) (drop block.next block.places.items)

-- The replies to a session's lines above an ordinal are still to be taken from the block, behind those to earlier
-- lines. Its places have ended.
pub record Gives (x : State) (session : ℕ) (block : Block) (n : ℕ) : Type 0 where
  pub ended : All (λ p. IsTrue (has_ended x p)) block.places.items
  pub within : block.next ≤ length block.places.items
  pub replies : behind n (left_in x block) ≡ replies_above x session n (length x.order)

-- the place at hand is the first of those that are left, and stands below a line up to an ordinal; or none is left that
-- does
abbrev pub IsInFront : State → Block → ℕ → Option ℕ → Type 0
IsInFront x block n None = up_to n (left_in x block) ≡ []
IsInFront x block n (Some p) =
    (block.next < length block.places.items) × ((d : ℕ) → slice_index_or block.places.items block.next d ≡ p)
    × (line_of (reply_in x p) ≤ n) × IsTrue (has_ended x p)
