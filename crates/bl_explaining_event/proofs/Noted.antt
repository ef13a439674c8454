-- The rule that a start applied, by what is known of its place behind it.
use Rattle.std.proofs.Common.{◌≡◌, ◌∙◌, ℕ, List, [], ◌∷◌, ap, get_or, refl, sym}
use Rattle.std.specs.Prelude.{Option, Some, None, option_and_then, slice_get}
use Rattle.bl_policy.specs.declared.rule.Rule.{Rule}
use Rattle.bl_work.specs.Statements.{Part}
use Rattle.bl_work.specs.declared.work.Work.{Work}
use Rattle.bl_work.specs.declared.work.Work.TheVariants as work
use Rattle.bl_order.specs.Headline.{Holds}
use Rattle.bl_order.specs.Machine.{Event, Opens, Admits, Starts, Ends, Loses, MayStart, State, change, is_lost, past_at, start}
use Rattle.bl_order.specs.Order.{Applies, Child, Entry, Line, Runs, Task}
use Rattle.bl_order.specs.Past.{earlier, first_task, no_entry, subject_of, task_of}
use Rattle.bl_core.specs.Origins.{work_asked}
use Rattle.bl_explain.specs.Run.{applied_by, rule_of}
use Rattle.bl_explain.specs.declared.since.Applied.{Applied}
use Rattle.bl_hall.specs.Chronicle.{Chronicle, state_now}
use Rattle.bl_ruled.specs.Noting.{rules_at}
use Rattle.bl_ruled.proofs.Starting.{applied-is, no-child, within}
use Rattle.bl_trail.proofs.Following.{state-more}
use Rattle.bl_explaining_event.specs.Courses.{HasHappened, IsStarted}
use Rattle.bl_explaining_event.specs.Decisions.{IsNoStart}

-- the rule of an entry: a child has none
abbrev pub rule_in_entry : ℕ → Entry → List Applied
rule_in_entry event (Line session ordinal subject asked) = rule_of event subject (first_task asked)
rule_in_entry event (Child parent which) = []

module _ (x : State) (holds : Holds x) (n event : ℕ) (may : MayStart x n) where
  by-task : (parent which : ℕ) → get_or x.order n no_entry ≡ Child parent which → (task : Task) → (past_at x n).task ≡ task
      → rule_of event (past_at x n).subject (past_at x n).task ≡ []
  by-task parent which entry (Runs script index) is = ap (rule_of event (past_at x n).subject) is
  by-task parent which entry (Applies rule) is =
      absurd (no-child x.setup (is_lost x) x.order n parent which rule holds.legal may.there entry is)

  by-entry : (e : Entry) → get_or x.order n no_entry ≡ e → rule_of event (past_at x n).subject (past_at x n).task ≡ rule_in_entry event e
  by-entry (Line session ordinal subject asked) is =
      let past = earlier x.setup (is_lost x) x.order n in ap (λ e. rule_of event (subject_of past e) (task_of past e)) is
  by-entry (Child parent which) is = by-task parent which is (past_at x n).task refl

  pub applied-entry : (e : Entry) → get_or x.order n no_entry ≡ e → applied_by event (past_at x n) ≡ rule_in_entry event e
  applied-entry e is = applied-is x n event may ∙ by-entry e is

  -- by the work that the entry asks: a behaviour and a child have no rule
  no-rule : (e : Entry) (script : List Part) → work_asked e ≡ Some (work.Behaviour script) → rule_in_entry event e ≡ []
  no-rule (Line session ordinal subject asked) script is = ap (λ w. rule_of event subject (first_task w)) (same is)
    where
      same : {a b : Work} → Some a ≡ Some b → a ≡ b
      same q = cc
  no-rule (Child parent which) script is = absurd (cc)

  no-child-rule : (e : Entry) → work_asked e ≡ None → rule_in_entry event e ≡ []
  no-child-rule (Line session ordinal subject asked) is = absurd (cc)
  no-child-rule (Child parent which) is = refl

  task-rule : (e : Entry) → get_or x.order n no_entry ≡ e → (rule : Rule) → work_asked e ≡ Some (work.Rule rule) → (past_at x n).task ≡ Applies rule
  task-rule (Line session ordinal subject asked) is rule found =
      ap (λ e. task_of (earlier x.setup (is_lost x) x.order n) e) is ∙ ap first_task (same found)
    where
      same : {a b : Work} → Some a ≡ Some b → a ≡ b
      same q = cc
  task-rule (Child parent which) is rule found = absurd (cc)

  abbrev entry : Entry
  entry = get_or x.order n no_entry

  asked-is : (o : Option Work) → option_and_then work_asked (slice_get x.order n) ≡ o → work_asked entry ≡ o
  asked-is o is = ap (option_and_then work_asked) (sym (within x.order n may.there)) ∙ is

  pub none-of-behaviour : (script : List Part) → option_and_then work_asked (slice_get x.order n) ≡ Some (work.Behaviour script)
      → applied_by event (past_at x n) ≡ []
  none-of-behaviour script is = applied-entry entry refl ∙ no-rule entry script (asked-is (Some (work.Behaviour script)) is)

  pub none-of-child : option_and_then work_asked (slice_get x.order n) ≡ None → applied_by event (past_at x n) ≡ []
  none-of-child is = applied-entry entry refl ∙ no-child-rule entry (asked-is None is)

  pub one-of-rule : (rule : Rule) → option_and_then work_asked (slice_get x.order n) ≡ Some (work.Rule rule)
      → applied_by event (past_at x n) ≡ record { event = event; speaker = (past_at x n).subject; rule = rule } ∷ []
  one-of-rule rule is =
      applied-is x n event may
      ∙ ap (rule_of event (past_at x n).subject) (task-rule entry refl rule (asked-is (Some (work.Rule rule)) is))

-- the start of a place
pub start-of : (e : Event) (n : ℕ) → IsStarted e (Some n) → e ≡ Starts n
start-of (Opens subject) n is = absurd (cc)
start-of (Admits session ordinal asked) n is = absurd (cc)
start-of (Starts m) n is = ap Starts (sym (same is))
  where
    same : Some n ≡ Some m → n ≡ m
    same q = cc
start-of (Ends m) n is = absurd (cc)
start-of (Loses m) n is = absurd (cc)

pub no-start-of : (e : Event) → IsStarted e None → IsNoStart e
no-start-of (Opens subject) is = tt
no-start-of (Admits session ordinal asked) is = tt
no-start-of (Starts m) is = absurd (cc)
no-start-of (Ends m) is = tt
no-start-of (Loses m) is = tt

pub no-rules-at : (e : Event) (number : ℕ) (x : State) → IsStarted e None → rules_at number x e ≡ []
no-rules-at (Opens subject) number x is = refl
no-rules-at (Admits session ordinal asked) number x is = refl
no-rules-at (Starts m) number x is = absurd (cc)
no-rules-at (Ends m) number x is = refl
no-rules-at (Loses m) number x is = refl

-- where a hall stands whose last event is this one
pub happened-is : (hall : Chronicle) (x : State) (e : Event) → HasHappened hall x e → state_now hall ≡ change x e
happened-is hall x e happened =
    ap state_now happened.hall_is ∙ state-more (start happened.before.setup happened.before.limit) happened.before.trail e
    ∙ ap (λ y. change y e) (sym happened.finds)
