-- What a run of `explain` over a trail says of the fault that ends it, and the status that it ends with.
use Rattle.std.specs.Prelude.{ℕ, List, ◌++◌, codes, decimal}
use Rattle.bl_status.specs.Message.{fault_line}
use Rattle.bl_status.specs.Status.{status_of}
use Rattle.bl_question.specs.Telling as question
use Rattle.bl_question.specs.declared.question.Question.{Question}
use Rattle.bl_explaining_trail.specs.declared.fault.AskedFault.{AskedFault}
use Rattle.bl_explaining_trail.specs.declared.fault.AskedFault.TheVariants as asking
use Rattle.bl_explaining_trail.specs.declared.fault.TrailFault.{TrailFault}
use Rattle.bl_explaining_trail.specs.declared.fault.TrailFault.TheVariants.{NoEvent, Program}

-- own choice: an event by its number between two texts, which end a line
abbrev pub event_line : List ℕ → ℕ → List ℕ → List ℕ
event_line before event after = before ++ (decimal event ++ after)

-- own choice: what is said of each fault
abbrev pub trail_text : TrailFault → List ℕ
trail_text (NoEvent event) = event_line (codes "no event ") event (codes "\n")
trail_text (Program fault) = fault_line fault

-- 2 for an event that is not there, 4 when out of memory, and 3 for anything else
abbrev pub status_by : TrailFault → ℕ
status_by (NoEvent event) = 2
status_by (Program fault) = status_of fault

-- what is asked is told as over a setup alone
abbrev pub asked_text : Question → AskedFault → List ℕ
asked_text q (asking.Trail fault) = trail_text fault
asked_text q (asking.Question fault) = question.fault_text q fault

abbrev pub asked_status_by : AskedFault → ℕ
asked_status_by (asking.Trail fault) = status_by fault
asked_status_by (asking.Question fault) = question.status_by fault
