-- The replies that a session was told, in the order in which they came, and which of them answer a line.
use Rattle.std.specs.Prelude.{⊤, ℕ, ◌<◌, ◌≤◌, ◌==◌, Bool, false, List, [], ◌∷◌, All, AllPairs, drop, filter}
use Rattle.std.specs.Prelude.{length, map, slice_index_or, take}
use Rattle.bl_work.specs.Few.{items_of}
use Rattle.bl_work.specs.declared.few.Few.TheVariants.{Nothing}
use Rattle.bl_work.specs.declared.answer.Answer.TheVariants.{Lost}
use Rattle.bl_work.specs.Names.{KnownNames}
use Rattle.bl_hall.specs.declared.reply.Reply as owned
use Rattle.bl_hall.specs.Told.{reply_of}
use Rattle.bl_wire.specs.Named.{NamesAnswer}
use Rattle.bl_wire.specs.Replies.{line_or_full}

-- the ordinal of a reply's line
abbrev pub ordinal_of : owned.Reply → ℕ
ordinal_of reply = slice_index_or (items_of reply.label) 0 0

-- the replies to a line
abbrev pub line_of : ℕ → List owned.Reply → List owned.Reply
line_of k told = filter (λ reply. ordinal_of reply == k) told

-- what is written for a line whose work was asked for: its replies, or where there are none that it was refused since
-- there was no room
abbrev pub told_text : KnownNames → List owned.Reply → ℕ → List ℕ
told_text names told k = line_or_full names k (map reply_of (line_of k told))

-- they go line by line
abbrev pub GoByLine : List owned.Reply → Type 0
GoByLine told = AllPairs (λ (earlier later : owned.Reply). ordinal_of earlier ≤ ordinal_of later) told

-- the first of these replies, where there is one, is to a line above an ordinal
abbrev pub BeginsAbove : ℕ → List owned.Reply → Type 0
BeginsAbove n [] = ⊤
BeginsAbove n (reply ∷ told) = n < ordinal_of reply

-- a reply to a line behind one ordinal and up to another, in which each subject and document has a name
pub record IsTold (names : KnownNames) (after upto : ℕ) (reply : owned.Reply) : Type 0 where
  pub low : after < ordinal_of reply
  pub high : ordinal_of reply ≤ upto
  pub named : NamesAnswer names reply.answer

-- these are replies to the lines after one ordinal and up to another, line by line
pub record IsBlock (names : KnownNames) (after upto : ℕ) (told : List owned.Reply) : Type 0 where
  pub are : All (IsTold names after upto) told
  pub order : GoByLine told

-- the first of these replies is to a line
abbrev pub begins_with : ℕ → List owned.Reply → Bool
begins_with k [] = false
begins_with k (reply ∷ told) = ordinal_of reply == k

-- what is left in the place of a reply that was taken out: it is to no line
abbrev pub told_already : owned.Reply
told_already = record { label = Nothing; answer = Lost }

-- each subject and document in them has a name
abbrev pub AreNamed : KnownNames → List owned.Reply → Type 0
AreNamed names told = All (λ (reply : owned.Reply). NamesAnswer names reply.answer) told

-- those from a place on go line by line, and those before it are to lines up to an ordinal
pub record IsPage (told : List owned.Reply) (next n : ℕ) : Type 0 where
  pub order : GoByLine (drop next told)
  pub within : next ≤ length told
  pub low : All (λ reply. ordinal_of reply ≤ n) (take next told)
