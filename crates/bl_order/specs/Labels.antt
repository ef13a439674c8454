-- Labels: whose each place of the order is, what its replies are called, and what a state answers to the lines of a session.
use Rattle.std.specs.Prelude.{ℕ, zero, suc, Bool, true, false, ◌&&◌, ◌||◌, if◌then◌else◌, ◌==◌, nat_lt, List, [], ◌∷◌, ◌++◌, length, slice_index_or}
use Rattle.bl_work.specs.declared.answer.Answer.{Answer}
use Rattle.bl_order.specs.Order.{Entry, Line, Child}
use Rattle.bl_order.specs.Past.{no_entry}
use Rattle.bl_order.specs.Machine.{State, past_at}

-- whose an entry is, and its label: the line's ordinal, and the child numbers down to the entry
pub record Tag : Type 0 where
  pub session : ℕ
  pub label : List ℕ

abbrev pub no_tag : Tag
no_tag = record { session = 0; label = [] }

-- of tags that stand newest first: that of place n
abbrev pub tag_at : List Tag → ℕ → Tag
tag_at [] n = no_tag
tag_at (tag ∷ earlier) n = if n == length earlier then tag else tag_at earlier n

-- a line has its ordinal, a child its parent's label and its number
abbrev pub tag_of : List Tag → Entry → Tag
tag_of earlier (Line session ordinal subject work) = record { session = session; label = ordinal ∷ [] }
tag_of earlier (Child parent which) = record { session = (tag_at earlier parent).session; label = (tag_at earlier parent).label ++ which ∷ [] }

-- the tags of the places below n, newest first
abbrev pub tags_to : List Entry → ℕ → List Tag
tags_to order zero = []
tags_to order (suc n) = tag_of (tags_to order n) (slice_index_or order n no_entry) ∷ tags_to order n

abbrev pub tag : List Entry → ℕ → Tag
tag order n = tag_of (tags_to order n) (slice_index_or order n no_entry)

-- the numeric order of labels
abbrev pub is_before : List ℕ → List ℕ → Bool
is_before [] [] = false
is_before [] (n ∷ b) = true
is_before (m ∷ a) [] = false
is_before (m ∷ a) (n ∷ b) = nat_lt m n || (m == n && is_before a b)

-- an answer, and the label of its entry
pub record Reply : Type 0 where
  pub label : List ℕ
  pub answer : Answer

-- one reply more among those in order of their labels
abbrev pub put_in : Reply → List Reply → List Reply
put_in reply [] = reply ∷ []
put_in reply (other ∷ replies) = if is_before reply.label other.label then reply ∷ other ∷ replies else other ∷ put_in reply replies

-- whether an entry is that of the session's line with this ordinal, or of a descendant of it
abbrev pub is_of : ℕ → ℕ → Tag → Bool
is_of session ordinal tag = (tag.session == session) && (slice_index_or tag.label 0 0 == ordinal)

-- the replies to a line, of the places below n
abbrev pub replies_to : State → ℕ → ℕ → ℕ → List Reply
replies_to x session ordinal zero = []
replies_to x session ordinal (suc n) =
    if is_of session ordinal (tag x.order n)
    then put_in (record { label = (tag x.order n).label; answer = (past_at x n).answer }) (replies_to x session ordinal n)
    else replies_to x session ordinal n
