-- What is said of each place of the order: its subject, what it does, its answer and its effects. All of it is said by looking
-- backwards, from the records of the places before it.
use Rattle.std.specs.Prelude.{ℕ, zero, suc, ◌-◌, Bool, true, false, ◌&&◌, if◌then◌else◌, ◌==◌, List, [], ◌∷◌, length, slice_index_or, Option, Some, None}
use Rattle.bl_level.specs.Level.{SecurityLevel, join_of}
use Rattle.bl_policy.specs.Policy.{SecurityPolicy, current_of, lowest}
use Rattle.bl_policy.specs.FirstFault.{first_fault}
use Rattle.bl_policy.specs.RuleEffect.{rule_fault, after_rule}
use Rattle.bl_policy.specs.declared.access.Access.{Access}
use Rattle.bl_policy.specs.declared.denial.Denial.{Denial}
use Rattle.bl_policy.specs.declared.rule.Rule.{Rule}
use Rattle.bl_policy.specs.declared.rule.Rule.TheVariants.{Give, Rescind, Current, Classify, Create, Delete}
use Rattle.bl_work.specs.Effects.{Effect, effects_of, after, outputs, children}
use Rattle.bl_work.specs.declared.work.Work.{Work}
use Rattle.bl_work.specs.declared.work.Work.TheVariants as work
use Rattle.bl_work.specs.declared.answer.Answer.{Answer}
use Rattle.bl_work.specs.declared.answer.Answer.TheVariants.{Done, RuleDone, Denied, Lost}
use Rattle.bl_setup.specs.Setup.{Setup}
use Rattle.bl_setup.specs.declared.version.Version.{Version}
use Rattle.bl_setup.specs.declared.version.Version.TheVariants.{One, Two}
use Rattle.bl_order.specs.Order.{Entry, Line, Child, Task, Runs, Applies, accesses_of, body_of, is_declared, is_altered}

-- The record of a place: who speaks, the level at which it runs (the subject's current one, by the policy at the place), the level that
-- it carries, what it does, its answer and its effects.
pub record Past : Type 0 where
  pub subject : ℕ
  pub level : SecurityLevel
  pub carried : SecurityLevel
  pub task : Task
  pub answer : Answer
  pub effects : List Effect

-- what stands where there is no such place
abbrev pub no_past : Past
no_past = record { subject = 0; level = lowest; carried = lowest; task = Runs [] 0; answer = Lost; effects = [] }

-- of the records of places 0 and up, newest first, that of place n
abbrev pub at_place : List Past → ℕ → Past
at_place [] n = no_past
at_place (past ∷ earlier) n = if n == length earlier then past else at_place earlier n

-- whether a behaviour ran
abbrev pub is_done : Answer → Bool
is_done (Done shown) = true
is_done RuleDone = false
is_done (Denied denial) = false
is_done Lost = false

-- whether a rule made its change
abbrev pub is_rule_done : Answer → Bool
is_rule_done (Done shown) = false
is_rule_done RuleDone = true
is_rule_done (Denied denial) = false
is_rule_done Lost = false

-- whether a place is answered as lost
abbrev pub was_lost : Answer → Bool
was_lost (Done shown) = false
was_lost RuleDone = false
was_lost (Denied denial) = false
was_lost Lost = true

-- The policy after a task of this subject was given its answer: a rule that is not lost changes it as rules do, which is by
-- nothing where its condition fails; a behaviour leaves it as it was.
abbrev pub changed : Answer → Task → ℕ → SecurityPolicy → SecurityPolicy
changed answer (Runs script index) subject policy = policy
changed answer (Applies rule) subject policy = if was_lost answer then policy else after_rule policy subject rule

-- the policy that these records make: the setup's, changed by them in order
abbrev pub policy_of : Setup → List Past → SecurityPolicy
policy_of setup [] = setup.policy
policy_of setup (past ∷ earlier) = changed past.answer past.task past.subject (policy_of setup earlier)

-- whether a rule deletes the document
abbrev pub deletes : Rule → ℕ → Bool
deletes (Give subject doc mode) o = false
deletes (Rescind subject doc mode) o = false
deletes (Current level) o = false
deletes (Classify doc level) o = false
deletes (Create doc) o = false
deletes (Delete doc) o = doc == o

-- whether a task is to alter a document: a behaviour that declares the document append or write, or a rule that deletes it
abbrev pub may_alter : Task → ℕ → Bool
may_alter (Runs script index) doc = is_altered (accesses_of (Runs script index)) doc
may_alter (Applies rule) doc = deletes rule doc

-- what an answer leaves of a content that its task is to alter: a behaviour that ran leaves it as its effects change it, a deletion that is
-- done leaves it empty, and what is denied or lost leaves it as it was
abbrev pub left_by : Answer → List Effect → ℕ → List ℕ → List ℕ
left_by (Done shown) effects doc content = after content effects doc
left_by RuleDone effects doc content = []
left_by (Denied denial) effects doc content = content
left_by Lost effects doc content = content

-- what a place leaves of a content
abbrev pub leaves : Past → ℕ → List ℕ → List ℕ
leaves past doc content = if may_alter past.task doc then left_by past.answer past.effects doc content else content

-- whether a place deleted the document: it is a rule that does, and it is done
abbrev pub has_deleted : Past → ℕ → Bool
has_deleted past doc = is_rule_done past.answer && may_alter past.task doc

-- The content that these records make: the setup's, changed in order by what each of these places leaves of it.
abbrev pub content_of : Setup → List Past → ℕ → List ℕ
content_of setup [] doc = slice_index_or setup.contents doc []
content_of setup (past ∷ earlier) doc = leaves past doc (content_of setup earlier doc)

-- Subject: a line speaks for its session's subject, a child for its parent's
abbrev pub subject_of : List Past → Entry → ℕ
subject_of earlier (Line session ordinal subject work) = subject
subject_of earlier (Child parent which) = (at_place earlier parent).subject

-- Carried (own choice, for what a behaviour remembers): a line carries nothing, and a child the levels at which its parent, and those
-- above it, ran; in version 1 nothing is carried.
abbrev pub carried_of : Version → List Past → Entry → SecurityLevel
carried_of One earlier entry = lowest
carried_of Two earlier (Line session ordinal subject work) = lowest
carried_of Two earlier (Child parent which) = join_of (at_place earlier parent).level (at_place earlier parent).carried

-- a behaviour's line runs the first behaviour of its script, and a rule's line applies the rule
abbrev pub first_task : Work → Task
first_task (work.Behaviour script) = Runs script 0
first_task (work.Rule rule) = Applies rule

-- another behaviour of the same script; a rule spawns none, and stands here for itself
abbrev pub child_task : Task → ℕ → Task
child_task (Runs script index) behaviour = Runs script behaviour
child_task (Applies rule) behaviour = Applies rule

-- Body: a line does its work; a child runs the behaviour that its parent's which-th Child effect names
abbrev pub task_of : List Past → Entry → Task
task_of earlier (Line session ordinal subject work) = first_task work
task_of earlier (Child parent which) =
    child_task (at_place earlier parent).task (slice_index_or (children (at_place earlier parent).effects) (which - 1) 0)

-- a behaviour sees the contents of the documents that it declares, and no other
abbrev pub lent : List Access → (ℕ → List ℕ) → ℕ → List ℕ
lent accesses contents doc = if is_declared accesses doc then contents doc else []

-- what a task does where it runs
abbrev pub deeds : Task → (ℕ → List ℕ) → List Effect
deeds task contents = effects_of (lent (accesses_of task) contents) (body_of task)

-- What the policy has against a task: of a behaviour the first access at fault, of a rule its failing condition (own choice: the
-- order in which faults are named).
abbrev pub fault_of_task : SecurityPolicy → ℕ → SecurityLevel → Task → Option Denial
fault_of_task policy subject carried (Runs script index) = first_fault policy subject carried (accesses_of (Runs script index))
fault_of_task policy subject carried (Applies rule) = rule_fault policy subject rule

-- the answer of a task that nothing is held against: a behaviour is done, with the texts that it showed, and a rule is done
abbrev pub granted : Task → List Effect → Answer
granted (Runs script index) effects = Done (outputs effects)
granted (Applies rule) effects = RuleDone

-- Answer: lost where it is lost; else denied where the policy has something against it; else granted
abbrev pub answer_of : Bool → Option Denial → Task → List Effect → Answer
answer_of true fault task effects = Lost
answer_of false (Some denial) task effects = Denied denial
answer_of false None task effects = granted task effects

-- only what ran has effects
abbrev pub only_if_done : Answer → List Effect → List Effect
only_if_done answer effects = if is_done answer then effects else []

-- the record of a task, by whether it is lost, the policy, what it would do, who speaks, and what is carried
abbrev pub judged : Bool → SecurityPolicy → List Effect → ℕ → SecurityLevel → Task → Past
judged lost policy effects subject carried task =
    let answer = answer_of lost (fault_of_task policy subject carried task) task effects in
    record {
      subject = subject;
      level = current_of policy subject;
      carried = carried;
      task = task;
      answer = answer;
      effects = only_if_done answer effects;
    }

-- the record of an entry's place, by whether it is lost and the records of the places before it
abbrev pub past_of : Setup → Bool → List Past → Entry → Past
past_of setup lost earlier entry =
    judged lost (policy_of setup earlier) (deeds (task_of earlier entry) (content_of setup earlier))
    (subject_of earlier entry) (carried_of setup.version earlier entry) (task_of earlier entry)

-- what stands where there is no entry
abbrev pub no_entry : Entry
no_entry = Child 0 0

-- Of a setup, the places that are lost, and an order:
module _ (setup : Setup) (lost : ℕ → Bool) (order : List Entry) where
  -- the records of the places before n, newest first
  abbrev pub earlier : ℕ → List Past
  earlier zero = []
  earlier (suc n) = past_of setup (lost n) (earlier n) (slice_index_or order n no_entry) ∷ earlier n

  -- the record of place n
  abbrev pub place : ℕ → Past
  place n = past_of setup (lost n) (earlier n) (slice_index_or order n no_entry)

  -- PolicyAt: the policy at place n, which is the setup's, changed in order by the rules before it that are not lost
  abbrev pub policy_before : ℕ → SecurityPolicy
  policy_before n = policy_of setup (earlier n)

  -- ContentAt: the content of a document at place n
  abbrev pub content_before : ℕ → ℕ → List ℕ
  content_before doc n = content_of setup (earlier n) doc
