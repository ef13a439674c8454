-- What is kept of the places, as the definitions of the order see it.
use Rattle.std.specs.Prelude.{ℕ, ◌+◌, ◌<◌, List, [], ◌∷◌, length, slice_index_or}
use Rattle.bl_policy.specs.Policy.{lowest}
use Rattle.bl_work.specs.declared.answer.Answer.TheVariants as answers
use Rattle.bl_work.specs.declared.work.Work.{Work}
use Rattle.bl_work.specs.declared.work.Work.TheVariants as works
use Rattle.bl_order.specs.Order.{Entry, Task, conflict}
use Rattle.bl_order.specs.Order as orders
use Rattle.bl_order.specs.Past.{first_task, child_task}
use Rattle.bl_order.specs.Machine.{Phase, is_over}
use Rattle.bl_order.specs.Machine as phases
use Rattle.bl_place.specs.declared.place.Descent.{Descent}
use Rattle.bl_place.specs.declared.place.Descent.TheVariants.{Line, Child}
use Rattle.bl_place.specs.declared.place.Stand.{Stand}
use Rattle.bl_place.specs.declared.place.Stand.TheVariants.{Waiting, Running, Ended}
use Rattle.bl_place.specs.declared.place.Siblings.{Siblings}
use Rattle.bl_place.specs.declared.place.Place.{Place}

-- the entry of a descent, spoken for by this subject
abbrev pub entry_by : ℕ → Descent → Entry
entry_by subject (Line session ordinal work) = orders.Line session ordinal subject work
entry_by subject (Child parent which) = orders.Child parent which

abbrev pub entry_of : Place → Entry
entry_of p = entry_by p.subject p.descent

-- an answer of a lost place tells that it is lost
abbrev pub phase_of : Stand → Phase
phase_of Waiting = phases.Waiting
phase_of Running = phases.Running
phase_of (Ended answers.Lost) = phases.Gone
phase_of (Ended answers.RuleDone) = phases.Ended
phase_of (Ended (answers.Done outputs)) = phases.Ended
phase_of (Ended (answers.Denied denial)) = phases.Ended

-- what stands where there is no place
abbrev pub no_place : Place
no_place = record { descent = Child 0 0; root = 0; index = 0; subject = 0; carried = lowest; stand = Waiting }

abbrev pub place_in : List Place → ℕ → Place
place_in places n = slice_index_or places n no_place

-- the work of a line; a child has none, and stands here for a script without behaviours
abbrev pub work_of : Descent → Work
work_of (Line session ordinal work) = work
work_of (Child parent which) = works.Behaviour []

-- the work of the line that a place descends from
abbrev pub work_in : List Place → ℕ → Work
work_in places n = work_of (place_in places (place_in places n).root).descent

-- what a place does: one of the behaviours of its line's script, or its line's rule
abbrev pub task_in : List Place → ℕ → Task
task_in places n = child_task (first_task (work_in places n)) (place_in places n).index

-- the script has the behaviour
abbrev pub HasBehaviour : Work → ℕ → Type 0
HasBehaviour (works.Behaviour script) index = index < length script
HasBehaviour (works.Rule rule) index = Unit {0}

abbrev pub HasTask : List Place → ℕ → Type 0
HasTask places n = HasBehaviour (work_in places n) (place_in places n).index

-- the child of this number among siblings, by the number of its behaviour
abbrev pub child_place : Siblings → ℕ → ℕ → Place
child_place siblings which index = record {
  descent = Child siblings.parent which;
  root = siblings.root;
  index = index;
  subject = siblings.subject;
  carried = siblings.carried;
  stand = Waiting;
}

-- siblings from this number on, by the numbers of their behaviours
abbrev pub child_places : Siblings → ℕ → List ℕ → List Place
child_places siblings which [] = []
child_places siblings which (index ∷ rest) = child_place siblings which index ∷ child_places siblings (which + 1) rest
