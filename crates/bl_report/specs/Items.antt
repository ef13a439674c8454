-- What is told of the events of a run: one list of items, in the order of the events.
use Rattle.std.specs.Prelude.{ℕ, zero, suc, ◌+◌, Bool, false, ◌==◌, if◌then◌else◌, is_some, List, [], ◌∷◌, ◌++◌, count_by, length, map, Option, Some, None, option_map, option_to_list}
use Rattle.bl_level.specs.Level.{SecurityLevel}
use Rattle.bl_policy.specs.declared.access.Access.{Access}
use Rattle.bl_policy.specs.declared.access.Mode.TheVariants.{Read, Append, Write}
use Rattle.bl_policy.specs.declared.denial.Denial.{Denial}
use Rattle.bl_policy.specs.declared.rule.Rule.{Rule}
use Rattle.bl_policy.specs.declared.rule.Rule.TheVariants.{Give, Rescind, Current, Classify, Create, Delete}
use Rattle.bl_policy.specs.FirstFault.{fault_of}
use Rattle.bl_policy.specs.Policy.{SecurityPolicy, allows, current_of, level_of}
use Rattle.bl_work.specs.Modes.{alters}
use Rattle.bl_work.specs.declared.answer.Answer.{Answer}
use Rattle.bl_work.specs.declared.answer.Answer.TheVariants as answer
use Rattle.bl_setup.specs.Setup.{Setup}
use Rattle.bl_order.specs.Order.{Entry, Line, Task, Runs, Applies, accesses_of}
use Rattle.bl_order.specs.Past.{Past}
use Rattle.bl_order.specs.Machine.{State, Event, Opens, Admits, Starts, Ends, Loses, change, children_at, entry_weight, past_at, runs, session_at, start}
use Rattle.bl_order.specs.Now.{content_now, policy_now}
use Rattle.bl_core.specs.Origins.{origin_of}
use Rattle.bl_hall.specs.Chronicle.{Chronicle, state_now, with_event}
use Rattle.bl_explain.specs.Grounds.{grounds_of}
use Rattle.bl_explain.specs.RuleTests.{rule_grounds_of}
use Rattle.bl_explain.specs.Run.{rules_of}
use Rattle.bl_explain.specs.Since.{since_of}
use Rattle.bl_report.specs.declared.item.Blame.{Blame}
use Rattle.bl_report.specs.declared.item.Blame.TheVariants.{OfAccess, OfRule}
use Rattle.bl_report.specs.declared.item.Former.{Former}
use Rattle.bl_report.specs.declared.item.Former.TheVariants as former
use Rattle.bl_report.specs.declared.item.Happening.{Happening}
use Rattle.bl_report.specs.declared.item.Happening.TheVariants.{Opened, Admitted, Held, Denied, Changed, Altered, Done, Lost}
use Rattle.bl_report.specs.declared.item.JudgedAccess.{JudgedAccess}
use Rattle.bl_report.specs.declared.item.ReportItem.{ReportItem}

-- the event ends the place, or loses it
abbrev pub ends_it : ℕ → Event → Bool
ends_it n (Opens subject) = false
ends_it n (Admits session ordinal work) = false
ends_it n (Starts k) = false
ends_it n (Ends k) = n == k
ends_it n (Loses k) = n == k

-- the number of the first event that does, where so many events come before these; events count from 1
abbrev pub ended_at : ℕ → ℕ → List Event → Option ℕ
ended_at n count [] = None
ended_at n count (event ∷ events) = if ends_it n event then Some (suc count) else ended_at n (suc count) events

-- an access, by what it is judged, and since when its right is as it is
abbrev pub judged_of : SecurityPolicy → ℕ → SecurityLevel → (Access → Option ℕ) → Access → JudgedAccess
judged_of p s carried since access = record { access = access; grounds = grounds_of p s carried access; right_since = since access }

-- the first access that is not granted
abbrev pub first_at_fault : SecurityPolicy → ℕ → SecurityLevel → List Access → Option Access
first_at_fault p s carried [] = None
first_at_fault p s carried (access ∷ rest) = if is_some (fault_of p s carried access) then Some access else first_at_fault p s carried rest

-- what is to blame for a denial: of a behaviour its first access that is not granted, of a rule itself
abbrev pub blame_of : SecurityPolicy → ℕ → SecurityLevel → (Access → Option ℕ) → Task → Option Blame
blame_of p s carried since (Runs script index) =
    option_map (λ access. OfAccess (judged_of p s carried since access)) (first_at_fault p s carried (accesses_of (Runs script index)))
blame_of p s carried since (Applies rule) = Some (OfRule rule (rule_grounds_of p s rule))

-- how many modes the matrix has for a subject and a document
abbrev pub modes_of : SecurityPolicy → ℕ → ℕ → ℕ
modes_of p s o = count_by (λ m. allows p s o m) (Read ∷ Append ∷ Write ∷ [])

-- and for the subjects below n
abbrev pub rights_below : SecurityPolicy → ℕ → ℕ → ℕ
rights_below p o zero = 0
rights_below p o (suc n) = rights_below p o n + modes_of p n o

-- what stands where a rule of subject s makes its change
abbrev pub former_of : State → ℕ → Rule → Former
former_of x s (Give t o m) = former.Right (allows (policy_now x) t o m)
former_of x s (Rescind t o m) = former.Right (allows (policy_now x) t o m)
former_of x s (Current level) = former.Level (current_of (policy_now x) s)
former_of x s (Classify o level) = former.Level (level_of (policy_now x) o)
former_of x s (Create o) = former.Absent
former_of x s (Delete o) = former.Present (length (content_now x o)) (rights_below (policy_now x) o (length (policy_now x).subjects))

-- Of the event of this number, which finds state x, where each place is held until some event, and each right of a subject is as it is
-- since some event:
module _ (until : ℕ → Option ℕ) (since : ℕ → Access → Option ℕ) (x : State) (number : ℕ) where
  abbrev pub item_of : ℕ → Happening → ReportItem
  item_of subject happening = record { event = number; subject = subject; happening = happening }

  -- the entries that enter the order from this place on, for one subject
  abbrev pub entering : ℕ → ℕ → List Entry → List ReportItem
  entering subject place [] = []
  entering subject place (entry ∷ entries) =
      item_of subject (Admitted place (origin_of entry) (entry_weight entry)) ∷ entering subject (suc place) entries

  -- the access of a place, by the policy that the event finds
  abbrev pub judged_at : Past → Access → JudgedAccess
  judged_at past access = judged_of (policy_now x) past.subject past.carried (since past.subject) access

  -- a start that is denied
  abbrev pub denying : ℕ → Past → Denial → Task → List ReportItem
  denying n past denial task =
      option_to_list
      (option_map (λ blame. item_of past.subject (Denied n denial.clause blame)) (blame_of (policy_now x) past.subject past.carried (since past.subject) task))

  -- one that is done, so that each declared access is held
  abbrev pub holding : ℕ → Past → Task → List ReportItem
  holding n past task = map (λ access. item_of past.subject (Held n (judged_at past access) (until n))) (accesses_of task)

  -- the start of a place, by its answer and its task
  abbrev pub starting : ℕ → Past → Answer → Task → List ReportItem
  starting n past (answer.Done shown) task = holding n past task
  starting n past answer.RuleDone (Runs script index) = []
  starting n past answer.RuleDone (Applies rule) = item_of past.subject (Changed n rule (former_of x past.subject rule)) ∷ []
  starting n past (answer.Denied denial) task = denying n past denial task
  starting n past answer.Lost task = []

  -- what the end of a place does to the documents that it declares append or write
  abbrev pub altering : ℕ → Past → List Access → List ReportItem
  altering n past [] = []
  altering n past (access ∷ rest) =
      (if alters access.mode
      then item_of past.subject (Altered n access (length (content_now x access.doc)) (length (content_now (change x (Ends n)) access.doc))) ∷ []
      else [])
      ++ altering n past rest

  -- own choice: what each event does, whose it is, and what is known of it
  abbrev pub items_at : Event → List ReportItem
  items_at (Opens subject) = item_of subject (Opened (length x.sessions)) ∷ []
  items_at (Admits session ordinal work) =
      let subject = (session_at x session).subject in entering subject (length x.order) (Line session ordinal subject work ∷ [])
  items_at (Starts n) = starting n (past_at x n) (past_at x n).answer (past_at x n).task
  items_at (Ends n) =
      altering n (past_at x n) (accesses_of (past_at x n).task)
      ++ (item_of (past_at x n).subject (Done n) ∷ entering (past_at x n).subject (length x.order) (children_at x n))
  items_at (Loses n) = item_of (past_at x n).subject (Lost n (runs x n)) ∷ []

-- since when a right is as it is, behind a run: the event whose rule changed it last, none where no rule did
abbrev pub right_since : Chronicle → ℕ → Access → Option ℕ
right_since h s access = (since_of h.setup.policy s access (rules_of 0 (start h.setup h.limit) h.trail)).allowed

-- what is told of these events behind a run
abbrev pub told : (ℕ → Option ℕ) → Chronicle → List Event → List ReportItem
told until h [] = []
told until h (event ∷ events) = items_at until (right_since h) (state_now h) (suc (length h.trail)) event ++ told until (with_event h event) events

-- the run over a setup in which nothing has happened
abbrev pub unbegun : Setup → ℕ → Chronicle
unbegun setup limit = record { setup = setup; limit = limit; trail = [] }

-- Report (own choice): the items of a run
abbrev pub report_items : Setup → ℕ → List Event → List ReportItem
report_items setup limit events = told (λ n. ended_at n 0 events) (unbegun setup limit) events
