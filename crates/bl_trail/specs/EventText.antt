-- What a trail says of an event, as one line without its LF.
use Rattle.std.specs.Prelude.{ℕ, List, [], ◌∷◌, ◌++◌, codes, decimal, slice_index_or}
use Rattle.bl_write.specs.CanonicalLine.{canonical_line}
use Rattle.bl_work.specs.Names.{KnownNames}
use Rattle.bl_work.specs.declared.answer.Answer.{Answer}
use Rattle.bl_work.specs.declared.answer.Answer.TheVariants.{Done, RuleDone, Denied, Lost}
use Rattle.bl_work.specs.declared.asked.Line.TheVariants as line
use Rattle.bl_order.specs.Machine.{State, Event, Opens, Admits, Starts, Ends, Loses, past_at}
use Rattle.bl_wire.specs.Replies.{answer_text}

-- what a start says of its place's answer: a behaviour that is not denied runs, whatever it will answer; no start is of
-- a lost place
abbrev pub start_words : KnownNames → Answer → List ℕ
start_words names (Done outputs) = codes " run"
start_words names RuleDone = codes " rule"
start_words names (Denied denial) = answer_text names (Denied denial)
start_words names Lost = answer_text names Lost

-- own choice: the text of an event, by the state that it finds
abbrev pub event_text : State → Event → List ℕ
event_text x (Opens subject) = codes "open " ++ slice_index_or x.setup.names.subjects subject []
event_text x (Admits session ordinal work) =
    codes "line " ++ (decimal session ++ (32 ∷
    (decimal ordinal ++ (32 ∷ canonical_line x.setup.names (line.Work work)))))
event_text x (Starts n) = codes "start " ++ (decimal n ++ start_words x.setup.names (past_at x n).answer)
event_text x (Ends n) = codes "end " ++ (decimal n ++ answer_text x.setup.names (past_at x n).answer)
event_text x (Loses n) = codes "lost " ++ decimal n
