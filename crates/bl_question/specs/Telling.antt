-- What a run of `explain` says of the fault that ends it, and the status that it ends with.
use Rattle.std.specs.Prelude.{ℕ, List, [], ◌++◌, codes, Option, Some, None}
use Rattle.std.specs.Borrow.{Bor}
use Rattle.bl_status.specs.Message.{fault_line}
use Rattle.bl_status.specs.Status.{status_of}
use Rattle.bl_wire.specs.Texts.{fault_words}
use Rattle.bl_work.specs.declared.asked.LineFault.{LineFault}
use Rattle.bl_question.specs.declared.fault.ExplainFault.{ExplainFault}
use Rattle.bl_question.specs.declared.fault.ExplainFault.TheVariants.{NoSubject, NoLevel, Unsaid, Program}
use Rattle.bl_question.specs.declared.question.Question.{Question}

-- own choice: a name that was not found, on a line of its own
abbrev pub unfound_line : List ℕ → List ℕ → List ℕ
unfound_line before name = before ++ (name ++ codes "`\n")

-- the text of the level that is carried
abbrev pub carried_text : Option (Bor (List ℕ)) → List ℕ
carried_text None = []
carried_text (Some text) = text.now

-- own choice: a fault of what is asked for, on a line of its own, in the words of a session
abbrev pub unsaid_line : LineFault → List ℕ
unsaid_line fault = codes "cannot say: " ++ (fault_words fault ++ codes "\n")

-- own choice: what is said of each fault
abbrev pub fault_text : Question → ExplainFault → List ℕ
fault_text q NoSubject = unfound_line (codes "no subject `") q.subject.now
fault_text q NoLevel = unfound_line (codes "no level `") (carried_text q.carried)
fault_text q (Unsaid fault) = unsaid_line fault
fault_text q (Program fault) = fault_line fault

-- 2 for what is asked wrongly, 4 when out of memory, and 3 for anything else
abbrev pub status_by : ExplainFault → ℕ
status_by NoSubject = 2
status_by NoLevel = 2
status_by (Unsaid fault) = 2
status_by (Program fault) = status_of fault
