-- What is kept of a place.
use Rattle.std.specs.Prelude.{◌≡◌, ℕ, ◌<◌, ◌≤◌, true, false, List, [], None, is_some, length, slice_index_or, ⊤}
use Rattle.bl_level.specs.Level.{SecurityLevel}
use Rattle.bl_policy.specs.Policy.{lowest}
use Rattle.bl_work.specs.Script.{IsScript}
use Rattle.bl_work.specs.Statements.{Part}
use Rattle.bl_work.specs.declared.work.Work.{Work}
use Rattle.bl_work.specs.declared.work.Work.TheVariants as work
use Rattle.bl_order.specs.Order as order
use Rattle.bl_order.specs.Past.{first_task, child_task}
use Rattle.bl_monitor.specs.Kept.{spawned_of}
use Rattle.bl_monitor.specs.declared.place.Origin.{Origin}
use Rattle.bl_monitor.specs.declared.place.Origin.TheVariants as origin
use Rattle.bl_monitor.specs.declared.judge.Judged.{Judged}
use Rattle.bl_monitor.specs.declared.place.Admitted.{Admitted}
use Rattle.bl_monitor.specs.declared.place.Place.{Place}

-- what stands where there is no such place
abbrev pub no_place : Place
no_place = record {
  admitted = record { origin = origin.Line; lost = false; subject = 0; carried = lowest; work = work.Behaviour []; index = 0 };
  carried_by_children = lowest;
  fault = None;
  children = None;
}

-- what is kept of an entry whose children carry this level, of which this came
abbrev pub place_of : Admitted → SecurityLevel → Judged → Place
place_of admitted level judged =
    record { admitted = admitted; carried_by_children = level; fault = judged.fault; children = judged.children }

-- the behaviours of a work: a rule has none
abbrev pub script_of : Work → List Part
script_of (work.Behaviour script) = script
script_of (work.Rule rule) = []

-- the script of a work, where it has one, is as every script is
abbrev pub HasScript : Work → Type 0
HasScript (work.Behaviour script) = IsScript script
HasScript (work.Rule rule) = ⊤

-- own choice: the session and the ordinal of a line bear on no answer, and are seen as 0
abbrev pub entry_from : Origin → ℕ → Work → order.Entry
entry_from origin.Line subject its_work = order.Line 0 0 subject its_work
entry_from (origin.Child parent which) subject its_work = order.Child parent which

-- the entry that was admitted
abbrev pub entry_of : Admitted → order.Entry
entry_of admitted = entry_from admitted.origin admitted.subject admitted.work

-- what is to be done for it: its rule, or this behaviour of its script
abbrev pub task_of : Admitted → order.Task
task_of admitted = child_task (first_task admitted.work) admitted.index

-- the parent's place was done with so many children at least
pub record HasChild (places : List Place) (parent which : ℕ) : Type 0 where
  pub behind : parent < length places
  pub done : is_some (slice_index_or places parent no_place).children ≡ true
  pub from_one : 0 < which
  pub spawned : which ≤ length (spawned_of (slice_index_or places parent no_place).children)
