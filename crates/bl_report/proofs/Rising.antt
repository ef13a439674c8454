-- The items rise by event.
use Rattle.std.proofs.Common.{◌≡◌, ℕ, suc, ◌+◌, ◌≤◌, Bool, true, false, cond, List, [], ◌∷◌, ◌++◌, length, map, refl, arith, length-append, Option, Some, None}
use Rattle.std.specs.Prelude.{option_map, option_to_list}
use Rattle.bl_policy.specs.declared.access.Access.{Access}
use Rattle.bl_policy.specs.declared.denial.Clause.{Clause}
use Rattle.bl_work.specs.Modes.{alters}
use Rattle.bl_work.specs.declared.answer.Answer.{Answer}
use Rattle.bl_work.specs.declared.answer.Answer.TheVariants as answer
use Rattle.bl_setup.specs.Setup.{Setup}
use Rattle.bl_order.specs.Order.{Entry, Task, Runs, Applies, accesses_of}
use Rattle.bl_order.specs.Past.{Past}
use Rattle.bl_order.specs.Machine.{State, Event, Opens, Admits, Starts, Ends, Loses, children_at, past_at}
use Rattle.bl_hall.specs.Chronicle.{Chronicle, state_now, with_event}
use Rattle.bl_report.specs.Items.{altering, entering, item_of, items_at, judged_at, report_items, right_since, starting, told, unbegun, ended_at}
use Rattle.bl_report.specs.Whole.{RiseBetween}
use Rattle.bl_report.specs.declared.item.Blame.{Blame}
use Rattle.bl_report.specs.declared.item.Happening.TheVariants.{Held, Denied}
use Rattle.bl_report.specs.declared.item.ReportItem.{ReportItem}

-- all items are of this event
abbrev pub AreOf : ℕ → List ReportItem → Type 0
AreOf number [] = Unit {0}
AreOf number (item ∷ items) = (item.event ≡ number) × AreOf number items

pub of-append : (number : ℕ) (a b : List ReportItem) → AreOf number a → AreOf number b → AreOf number (a ++ b)
of-append number [] b of_a of_b = of_b
of-append number (item ∷ a) b of_a of_b = (of_a.0, of-append number a b of_a.1 of_b)

chosen-of : (number : ℕ) (b : Bool) (item : ReportItem) → item.event ≡ number → AreOf number (cond b (item ∷ []) [])
chosen-of number true item is = (is, tt)
chosen-of number false item is = tt

module _ (until : ℕ → Option ℕ) (since : ℕ → Access → Option ℕ) (x : State) (number : ℕ) where
  entering-of : (subject place : ℕ) (entries : List Entry) → AreOf number (entering until since x number subject place entries)
  entering-of subject place [] = tt
  entering-of subject place (entry ∷ entries) = (refl, entering-of subject (suc place) entries)

  altering-of : (n : ℕ) (past : Past) (accesses : List Access) → AreOf number (altering until since x number n past accesses)
  altering-of n past [] = tt
  altering-of n past (access ∷ rest) =
      of-append number _ (altering until since x number n past rest) (chosen-of number (alters access.mode) _ refl) (altering-of n past rest)

  held-of : (n : ℕ) (past : Past) (accesses : List Access)
      → AreOf number (map (λ access. item_of until since x number past.subject (Held n (judged_at until since x number past access) (until n))) accesses)
  held-of n past [] = tt
  held-of n past (access ∷ rest) = (refl, held-of n past rest)

  blame-of : (n : ℕ) (past : Past) (clause : Clause) (o : Option Blame)
      → AreOf number (option_to_list (option_map (λ blame. item_of until since x number past.subject (Denied n clause blame)) o))
  blame-of n past clause None = tt
  blame-of n past clause (Some blame) = (refl, tt)

  starting-of : (n : ℕ) (past : Past) (a : Answer) (task : Task) → AreOf number (starting until since x number n past a task)
  starting-of n past (answer.Done shown) task = held-of n past (accesses_of task)
  starting-of n past answer.RuleDone (Runs script index) = tt
  starting-of n past answer.RuleDone (Applies rule) = (refl, tt)
  starting-of n past (answer.Denied denial) task = blame-of n past denial.clause _
  starting-of n past answer.Lost task = tt

  pub items-of : (e : Event) → AreOf number (items_at until since x number e)
  items-of (Opens s) = (refl, tt)
  items-of (Admits i o w) = (refl, tt)
  items-of (Starts n) = starting-of n (past_at x n) (past_at x n).answer (past_at x n).task
  items-of (Ends n) =
      of-append number (altering until since x number n (past_at x n) (accesses_of (past_at x n).task)) _
      (altering-of n (past_at x n) (accesses_of (past_at x n).task))
      (refl, entering-of (past_at x n).subject (length x.order) (children_at x n))
  items-of (Loses n) = (refl, tt)

lower : (low number high : ℕ) → low ≤ number → (items : List ReportItem) → RiseBetween number high items → RiseBetween low high items
lower low number high le [] rise = tt
lower low number high le (item ∷ items) rise = (omega (arith, le, rise.0), rise.1, rise.2)

rise-append : (low number high : ℕ) → low ≤ number → number ≤ high → (a b : List ReportItem) → AreOf number a → RiseBetween number high b → RiseBetween low high (a ++ b)
rise-append low number high le ge [] b of_a rise = lower low number high le b rise
rise-append low number high le ge (item ∷ a) b of_a rise =
    (omega (arith, le, of_a.0), omega (arith, ge, of_a.0), rise-append item.event number high (omega (arith, of_a.0)) ge a b of_a.1 rise)

module _ (until : ℕ → Option ℕ) where
  rises : (h : Chronicle) (es : List Event) (low high : ℕ) → low ≤ suc (length h.trail) → high ≡ length h.trail + length es → RiseBetween low high (told until h es)
  rises h [] low high le is = tt
  rises h (e ∷ es) low high le is =
      rise-append low (suc (length h.trail)) high le (omega (arith, is)) (items_at until (right_since h) (state_now h) (suc (length h.trail)) e) (told until (with_event h e) es)
      (items-of until (right_since h) (state_now h) (suc (length h.trail)) e)
      (rises (with_event h e) es (suc (length h.trail)) high (omega (arith, length-append h.trail (e ∷ []))) (omega (arith, is, length-append h.trail (e ∷ []))))

pub items-rise : (setup : Setup) (limit : ℕ) (events : List Event) → RiseBetween 1 (length events) (report_items setup limit events)
items-rise setup limit events = rises (λ n. ended_at n 0 events) (unbegun setup limit) events 1 (length events) (omega arith) (omega arith)
