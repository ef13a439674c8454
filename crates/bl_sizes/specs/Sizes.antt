-- How long the text of a trail may become: what each place of the order has in it at most, and what may still
-- come of it.
-- Own choice: a number counts with all the digits that it may have, a denial with the longest words and names, and a
-- session that may still be opened as one that was.
use Rattle.std.specs.Prelude.{ℕ, ◌+◌, ◌-◌, ◌*◌, ◌<◌, ◌≤◌, max, if◌then◌else◌}
use Rattle.std.specs.Prelude.{List, [], ◌∷◌, length, slice_index_or, sum_by}
use Rattle.std.specs.List.{range_with_len}
use Rattle.bl_work.specs.Content.{most_bytes}
use Rattle.bl_work.specs.Names.{KnownNames}
use Rattle.bl_work.specs.Statements.{Statements, Nothing, Show, Say, Add, Set, Copy, Pour, If, Spawn, Part}
use Rattle.bl_work.specs.declared.answer.Answer.{Answer}
use Rattle.bl_work.specs.declared.answer.Answer.TheVariants.{Done, RuleDone, Denied, Lost}
use Rattle.bl_work.specs.declared.asked.Line.TheVariants as asked
use Rattle.bl_work.specs.declared.work.Work.{Work}
use Rattle.bl_write.specs.CanonicalLine.{canonical_line}
use Rattle.bl_setup.specs.Setup.{Setup}
use Rattle.bl_order.specs.Order.{Entry, Line, Child, Task, Runs, Applies}
use Rattle.bl_order.specs.Past.{first_task, no_entry}
use Rattle.bl_order.specs.Machine.{State, Event, Opens, Admits, Starts, Ends, Loses, change, most_sessions}
use Rattle.bl_order.specs.Machine.{past_at, has_ended}

-- the most bytes of a line with its LF: the head lines, `stop`, an opening, a line without its work, a start that runs,
-- what the start of a rule and of what is denied have more than that, an end without what is shown, and a loss
abbrev pub head_most : ℕ
head_most = 21

abbrev pub stop_most : ℕ
stop_most = 5

abbrev pub open_most : ℕ
open_most = 38

abbrev pub line_most : ℕ
line_most = 21

abbrev pub run_most : ℕ
run_most = 16

abbrev pub rule_more : ℕ
rule_more = 1

abbrev pub denied_more : ℕ
denied_more = 83

abbrev pub end_most : ℕ
end_most = 15

abbrev pub lost_most : ℕ
lost_most = 11

-- what a text takes that was shown: a space and two marks stand round it
abbrev pub shown_size : List ℕ → ℕ
shown_size text = length text + 3

-- What a body may show and spawn at most, where `coming` says what may come of each behaviour once its start is
-- written: each `show` shows as much as a document holds, and of the branches of an `if` one runs.
abbrev pub most_of : (ℕ → ℕ) → Statements → ℕ
most_of coming Nothing = 0
most_of coming (Show doc rest) = most_bytes + 3 + most_of coming rest
most_of coming (Say text rest) = shown_size text + most_of coming rest
most_of coming (Add doc text rest) = most_of coming rest
most_of coming (Set doc text rest) = most_of coming rest
most_of coming (Copy from to rest) = most_of coming rest
most_of coming (Pour from to rest) = most_of coming rest
most_of coming (If doc asks text then_body else_body rest) =
    max (most_of coming then_body) (most_of coming else_body) + most_of coming rest
most_of coming (Spawn behaviour rest) = run_most + coming behaviour + most_of coming rest

-- each behaviour that the statements name is one of so many
abbrev pub NamesBelow : ℕ → Statements → Type 0
NamesBelow count Nothing = Unit {0}
NamesBelow count (Show doc rest) = NamesBelow count rest
NamesBelow count (Say text rest) = NamesBelow count rest
NamesBelow count (Add doc text rest) = NamesBelow count rest
NamesBelow count (Set doc text rest) = NamesBelow count rest
NamesBelow count (Copy from to rest) = NamesBelow count rest
NamesBelow count (Pour from to rest) = NamesBelow count rest
NamesBelow count (If doc asks text then_body else_body rest) =
    NamesBelow count then_body × NamesBelow count else_body × NamesBelow count rest
NamesBelow count (Spawn behaviour rest) = (behaviour < count) × NamesBelow count rest

-- what may come of each behaviour once its start is written, for the behaviours from number k on
abbrev pub coming_from : ℕ → List Part → List ℕ
coming_from k [] = []
coming_from k (part ∷ rest) =
    (denied_more + most_of (λ j. slice_index_or (coming_from (k + 1) rest) (j - (k + 1)) 0) part.body)
    ∷ coming_from (k + 1) rest

abbrev pub coming_in : List Part → ℕ → ℕ
coming_in script k = slice_index_or (coming_from 0 script) k 0

-- what may come of a task, with all that it spawns
abbrev pub coming_of : Task → ℕ
coming_of (Runs script index) = coming_in script index
coming_of (Applies rule) = denied_more

-- what a place has at most that has ended with an answer: its start, and its end or its loss
abbrev pub ended_size : Answer → ℕ
ended_size (Done shown) = run_most + (end_most + sum_by shown_size shown)
ended_size RuleDone = run_most + rule_more
ended_size (Denied denial) = run_most + denied_more
ended_size Lost = run_most + lost_most

-- what the line of an entry takes at most; a child has no line
abbrev pub entry_size : KnownNames → Entry → ℕ
entry_size names (Line session ordinal subject work) = line_most + length (canonical_line names (asked.Work work))
entry_size names (Child parent which) = 0

-- what place n has in the text, without what may still come of it: its line, and its start or all that it is answered
abbrev pub written_at : State → ℕ → ℕ
written_at x n =
    entry_size x.setup.names (slice_index_or x.order n no_entry)
    + (if has_ended x n then ended_size (past_at x n).answer else run_most)

-- and with it
abbrev pub size_at : State → ℕ → ℕ
size_at x n = written_at x n + (if has_ended x n then 0 else coming_of (past_at x n).task)

-- what the head, all openings and `stop` take
abbrev pub frame_size : ℕ
frame_size = head_most + most_sessions * open_most + stop_most

-- what was written is no longer than this, even once `stop` stands behind it
abbrev pub written_size : State → ℕ
written_size x = frame_size + sum_by (written_at x) (range_with_len 0 (length x.order))

-- and this is all that may come of the lines that were admitted
abbrev pub full_size : State → ℕ
full_size x = frame_size + sum_by (size_at x) (range_with_len 0 (length x.order))

-- what an entry may add with all that comes of it: a child was counted with the line that it comes of
abbrev pub added_by : KnownNames → Entry → ℕ
added_by names (Line session ordinal subject work) =
    entry_size names (Line session ordinal subject work) + (run_most + coming_of (first_task work))
added_by names (Child parent which) = 0

-- what a line with this work may add
abbrev pub work_size : KnownNames → Work → ℕ
work_size names work = added_by names (Line 0 0 0 work)

-- FitsIn: with all that may come, the text stays within the limit
abbrev pub FitsIn : ℕ → State → Work → Type 0
FitsIn most x work = full_size x + work_size x.setup.names work ≤ most

-- where nothing more came of the lines that were admitted, it would fit
abbrev pub FitsAlone : ℕ → State → Work → Type 0
FitsAlone most x work = written_size x + work_size x.setup.names work ≤ most

-- each line that these events admit fits when it is admitted
abbrev pub EachFits : ℕ → State → List Event → Type 0
EachFits most x [] = Unit {0}
EachFits most x (Admits session ordinal work ∷ events) =
    FitsIn most x work × EachFits most (change x (Admits session ordinal work)) events
EachFits most x (Opens subject ∷ events) = EachFits most (change x (Opens subject)) events
EachFits most x (Starts n ∷ events) = EachFits most (change x (Starts n)) events
EachFits most x (Ends n ∷ events) = EachFits most (change x (Ends n)) events
EachFits most x (Loses n ∷ events) = EachFits most (change x (Loses n)) events

-- no document of the setup is longer than a document may be
abbrev pub HoldsDocuments : Setup → Type 0
HoldsDocuments setup = (doc : ℕ) → length (slice_index_or setup.contents doc []) ≤ most_bytes
