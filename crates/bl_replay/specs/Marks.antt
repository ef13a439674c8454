-- What the lines that are still to come say of the ends of places.
use Rattle.std.specs.Prelude.{◌≡◌, ℕ, Bool, true, false, IsTrue, if◌then◌else◌, ◌==◌, List, [], ◌∷◌, slice_index_or}
use Rattle.std.specs.Prelude.{Option, Some, None}
use Rattle.bl_order.specs.Past.{is_done}
use Rattle.bl_order.specs.Machine.{State, Event, Opens, Admits, Starts, Ends, Loses, past_at, is_lost, has_ended}
use Rattle.bl_replay.specs.declared.mark.Mark.{Mark}
use Rattle.bl_replay.specs.declared.mark.Mark.TheVariants as mark

-- what a line finds: the place that it ends, if it ends one, and whether as lost
abbrev pub Finding : Type 0
Finding = Option (ℕ × Bool)

-- what an event finds; a behaviour that runs from its start on does not end there
abbrev pub ending_of : State → Event → Finding
ending_of x (Opens subject) = None
ending_of x (Admits session ordinal work) = None
ending_of x (Starts n) = if is_done (past_at x n).answer then None else Some (n, false)
ending_of x (Ends n) = Some (n, false)
ending_of x (Loses n) = Some (n, true)

-- whether the first line that ends a place says that it is lost; a place that no line ends is not
abbrev pub first_end : List Finding → ℕ → Bool
first_end [] k = false
first_end (None ∷ found) k = first_end found k
first_end (Some end ∷ found) k = if end.0 == k then end.1 else first_end found k

-- The marks say of each place that has ended whether it is lost, and of each other one whether the lines to come lose
-- it.
abbrev pub Foretells : State → (ℕ → Bool) → List Finding → Type 0
Foretells x marks found = (k : ℕ) → marks k ≡ (if has_ended x k then is_lost x k else first_end found k)

-- The marks say of each place that has ended whether it is lost. Of the others they say what becomes of them later.
abbrev pub AreForetold : (ℕ → Bool) → State → Type 0
AreForetold marks x = (k : ℕ) → IsTrue (has_ended x k) → is_lost x k ≡ marks k

-- a place that is not marked is open
abbrev pub mark_in : List Mark → ℕ → Mark
mark_in marks n = slice_index_or marks n mark.Open

abbrev pub is_marked_lost : Mark → Bool
is_marked_lost mark.Open = false
is_marked_lost mark.Ended = false
is_marked_lost mark.Lost = true

-- whether the lines lose a place
abbrev pub lost_later : List Mark → ℕ → Bool
lost_later marks n = is_marked_lost (mark_in marks n)

-- what a mark leaves of what further lines say
abbrev pub unless_marked : Mark → Bool → Bool
unless_marked mark.Open later = later
unless_marked mark.Ended later = false
unless_marked mark.Lost later = true

abbrev pub mark_as : Bool → Mark
mark_as true = mark.Lost
mark_as false = mark.Ended

-- the mark of a place after a line more that ends it
abbrev pub mark_once : Mark → Bool → Mark
mark_once mark.Open lost = mark_as lost
mark_once mark.Ended lost = mark.Ended
mark_once mark.Lost lost = mark.Lost

-- the mark of a place after a line more that ends place n
abbrev pub noted_at : List Mark → ℕ → Bool → ℕ → Mark
noted_at marks n lost k = if n == k then mark_once (mark_in marks n) lost else mark_in marks k

-- the marks are what the first lines that end places say
abbrev pub AreMarked : List Mark → List Finding → Type 0
AreMarked marks found = (k : ℕ) → lost_later marks k ≡ first_end found k
