-- What an entry does, by the work that it asks.
use Rattle.std.proofs.Common.{◌≡◌, ◌<◌, ◌∙◌, ℕ, List, true, false, ap, get_or, length, refl, sym, true≢false}
use Rattle.std.specs.Prelude.{Option, Some, None, option_and_then, slice_get}
use Rattle.bl_work.specs.Statements.{Part}
use Rattle.bl_work.specs.declared.work.Work.{Work}
use Rattle.bl_work.specs.declared.work.Work.TheVariants as work
use Rattle.bl_order.specs.Headline.{Holds}
use Rattle.bl_order.specs.Machine.{State, is_lost, past_at}
use Rattle.bl_order.specs.Order.{Applies, Child, Entry, Line, Runs, Task, is_rule}
use Rattle.bl_order.specs.Past.{earlier, first_task, no_entry, task_of}
use Rattle.bl_core.specs.Origins.{work_asked}
use Rattle.bl_ruled.proofs.Starting.{no-child, within}

module _ (x : State) (holds : Holds x) (n : ℕ) (there : n < length x.order) where
  abbrev entry : Entry
  entry = get_or x.order n no_entry

  asked-is : (o : Option Work) → option_and_then work_asked (slice_get x.order n) ≡ o → work_asked entry ≡ o
  asked-is o is = ap (option_and_then work_asked) (sym (within x.order n there)) ∙ is

  task-by : (e : Entry) → entry ≡ e → (asked : Work) → work_asked e ≡ Some asked → (past_at x n).task ≡ first_task asked
  task-by (Line session ordinal subject own) is asked found =
      ap (λ e. task_of (earlier x.setup (is_lost x) x.order n) e) is ∙ ap first_task (same found)
    where
      same : {a b : Work} → Some a ≡ Some b → a ≡ b
      same q = cc
  task-by (Child parent which) is asked found = absurd (cc)

  pub task-is : (asked : Work) → option_and_then work_asked (slice_get x.order n) ≡ Some asked → (past_at x n).task ≡ first_task asked
  task-is asked is = task-by entry refl asked (asked-is (Some asked) is)

  pub no-behaviour : (script : List Part) → option_and_then work_asked (slice_get x.order n) ≡ Some (work.Behaviour script)
      → is_rule (past_at x n).task ≡ true → ⊥
  no-behaviour script is rule = true≢false (sym rule ∙ ap is_rule (task-is (work.Behaviour script) is))

  child-by : (e : Entry) → entry ≡ e → work_asked e ≡ None → (task : Task) → (past_at x n).task ≡ task → is_rule task ≡ true → ⊥
  child-by (Line session ordinal subject own) is found task same rule = absurd (cc)
  child-by (Child parent which) is found (Runs script index) same rule = true≢false (sym rule)
  child-by (Child parent which) is found (Applies own) same rule = no-child x.setup (is_lost x) x.order n parent which own holds.legal there is same

  pub no-child-there : option_and_then work_asked (slice_get x.order n) ≡ None → is_rule (past_at x n).task ≡ true → ⊥
  no-child-there is rule = child-by entry refl (asked-is None is) (past_at x n).task refl rule
