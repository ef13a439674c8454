-- The texts of what a state of the machine answers to the lines of a session.
use Rattle.std.specs.Prelude.{ℕ, List, [], ◌∷◌, ◌++◌, length, slice_index_or, codes, decimal, Option, Some, None}
use Rattle.std.specs.List.{flat_map}
use Rattle.bl_policy.specs.Denial.{word_of}
use Rattle.bl_work.specs.Names.{KnownNames}
use Rattle.bl_work.specs.declared.answer.Answer.{Answer}
use Rattle.bl_work.specs.declared.answer.Answer.TheVariants.{Done, RuleDone, Denied, Lost}
use Rattle.bl_order.specs.Machine.{State}
pub use Rattle.bl_order.specs.Labels.{Tag, no_tag, tag_at, tag_of, tags_to, tag, is_before, Reply, put_in, is_of}
pub use Rattle.bl_order.specs.Labels.{replies_to}
use Rattle.bl_wire.specs.Texts.{refusal}

-- a label's numbers with dots between them
abbrev pub label_text : List ℕ → List ℕ
label_text [] = []
label_text (n ∷ []) = decimal n
label_text (n ∷ m ∷ label) = decimal n ++ codes "." ++ label_text (m ∷ label)

-- a space and the text in quotation marks
abbrev pub output_text : List ℕ → List ℕ
output_text text = 32 ∷ 34 ∷ (text ++ 34 ∷ [])

abbrev pub object_text : KnownNames → Option ℕ → List ℕ
object_text names None = []
object_text names (Some doc) = codes " " ++ slice_index_or names.documents doc []

abbrev pub answer_text : KnownNames → Answer → List ℕ
answer_text names (Done outputs) = codes " done" ++ flat_map output_text outputs
answer_text names (Denied denial) =
    codes " denied " ++ (word_of denial.clause
    ++ (codes " " ++ (slice_index_or names.subjects denial.subject [] ++ object_text names denial.object)))
answer_text names RuleDone = codes " done"
answer_text names Lost = codes " lost"

abbrev pub reply_text : KnownNames → Reply → List ℕ
reply_text names reply = label_text reply.label ++ (answer_text names reply.answer ++ codes "\n")

-- a line that was not admitted was refused since there was no room
abbrev pub line_or_full : KnownNames → ℕ → List Reply → List ℕ
line_or_full names ordinal [] = refusal ordinal (codes "full")
line_or_full names ordinal (reply ∷ replies) = flat_map (reply_text names) (reply ∷ replies)

-- what is answered to the session's line with this ordinal, whose work was asked for
abbrev pub line_text : State → ℕ → ℕ → List ℕ
line_text x session ordinal = line_or_full x.setup.names ordinal (replies_to x session ordinal (length x.order))
