-- What comes of an entry.
use Rattle.std.specs.Prelude.{◌≡◌, ℕ, ◌<◌, Bool, if◌then◌else◌, List, length, Option, None, is_some, true}
use Rattle.bl_level.specs.Level.{SecurityLevel, join_of}
use Rattle.bl_policy.specs.FirstFault.{first_fault}
use Rattle.bl_policy.specs.Policy.{SecurityPolicy, lowest}
use Rattle.bl_policy.specs.RuleEffect.{HasIdsBelow}
use Rattle.bl_policy.specs.declared.denial.Denial.{Denial}
use Rattle.bl_work.specs.Effects.{Effect, effects_of, after, outputs, children}
use Rattle.bl_work.specs.Statements.{Part}
use Rattle.bl_setup.specs.declared.version.Version.{Version}
use Rattle.bl_setup.specs.declared.version.Version.TheVariants.{One, Two}
use Rattle.bl_work.specs.declared.answer.Answer.{Answer}
use Rattle.bl_work.specs.declared.answer.Answer.TheVariants as answer
use Rattle.bl_work.specs.declared.work.Work.{Work}
use Rattle.bl_work.specs.declared.work.Work.TheVariants as work
use Rattle.bl_order.specs.Order.{Task, accesses_of, is_altered}
use Rattle.bl_order.specs.Past.{Past, judged, deeds, lent, leaves, is_done}
use Rattle.bl_order.specs.Known.{AreBelow}
use Rattle.bl_monitor.specs.Kept.{spawned_of}
use Rattle.bl_monitor.specs.Undoing.{content_listed}
use Rattle.bl_monitor.specs.declared.place.Admitted.{Admitted}
use Rattle.bl_monitor.specs.declared.judge.Judged.{Judged}

-- the ids of a work are below these counts, and its script has the behaviour
abbrev pub HasBelow : ℕ → ℕ → Work → ℕ → Type 0
HasBelow subjects documents (work.Behaviour script) index = AreBelow documents script × (index < length script)
HasBelow subjects documents (work.Rule rule) index = HasIdsBelow subjects documents rule

-- the ids of an entry are there, and its script has the behaviour
pub record KnowsEntry (policy : SecurityPolicy) (contents : List (List ℕ)) (admitted : Admitted) : Type 0 where
  pub subject : admitted.subject < length policy.subjects
  pub ids : HasBelow (length policy.subjects) (length policy.documents) admitted.work admitted.index
  pub as_many : length policy.documents ≡ length contents

-- there are as many contents as before, and each document has the one that is said
pub record Leaves (contents : List (List ℕ)) (after_it : ℕ → List ℕ) (now : List (List ℕ)) : Type 0 where
  pub as_many : length now ≡ length contents
  pub left : (doc : ℕ) → doc < length contents → content_listed now doc ≡ after_it doc

-- what a behaviour does on these contents
abbrev pub effects_on : List (List ℕ) → Part → List Effect
effects_on contents part = effects_of (lent part.accesses (content_listed contents)) part.body

-- the content of a document once the behaviour ran on these contents
abbrev pub content_once_run : List (List ℕ) → Part → ℕ → List ℕ
content_once_run contents part doc =
    if is_altered part.accesses doc then after (content_listed contents doc)
    (effects_on contents part) doc else content_listed contents doc

-- the behaviour ran on these contents
pub record IsDone (contents : List (List ℕ)) (part : Part) (j : Judged) : Type 0 where
  pub answer : j.answer ≡ answer.Done (outputs (effects_on contents part))
  pub fault : j.fault ≡ None
  pub ran : is_some j.children ≡ true
  pub spawned : spawned_of j.children ≡ children (effects_on contents part)

-- nothing ran
pub record IsIdle (given : Answer) (found : Option Denial) (j : Judged) : Type 0 where
  pub answer : j.answer ≡ given
  pub fault : j.fault ≡ found
  pub ran : j.children ≡ None

-- what is judged: whether it is lost, who speaks, the level that is carried, and what is to be done
pub record Case : Type 0 where
  pub lost : Bool
  pub subject : ℕ
  pub carried : SecurityLevel
  pub task : Task

-- an entry that is to do this
abbrev pub case_of : Admitted → Task → Case
case_of admitted task = record { lost = admitted.lost; subject = admitted.subject; carried = admitted.carried; task = task }

-- the record of its place, by the policy and the contents there
abbrev pub record_of : SecurityPolicy → List (List ℕ) → Case → Past
record_of policy contents c = judged c.lost policy (deeds c.task (content_listed contents)) c.subject c.carried c.task

-- What comes of it is what its record says. Own choice: of a rule no fault is kept, since it declares no access.
pub record IsJudged (policy : SecurityPolicy) (contents : List (List ℕ)) (c : Case) (j : Judged) : Type 0 where
  pub answer : j.answer ≡ (record_of policy contents c).answer
  pub fault : j.fault ≡ first_fault policy c.subject c.carried (accesses_of c.task)
  pub ran : is_some j.children ≡ is_done (record_of policy contents c).answer
  pub spawned : spawned_of j.children ≡ children (record_of policy contents c).effects

-- the content of a document after a place with this record, before which these contents stood
abbrev pub content_behind : List (List ℕ) → Past → ℕ → List ℕ
content_behind contents past doc = leaves past doc (content_listed contents doc)

-- Carried (own choice, for what a behaviour remembers), of the children of a place that ran at this level and carried
-- this one itself: the join of both; in version 1 nothing is carried.
abbrev pub carried_by_children : Version → SecurityLevel → SecurityLevel → SecurityLevel
carried_by_children One level carried = lowest
carried_by_children Two level carried = join_of level carried
