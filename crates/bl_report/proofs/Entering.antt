-- What the items tell to be admitted is the order.
use Rattle.std.proofs.Common.{◌≡◌, ℕ, suc, ◌+◌, Bool, true, false, cond, List, [], ◌∷◌, ◌++◌, length, map, refl, sym, ◌∙◌, ap, arith, append_assoc, append-nil, Option, Some, None}
use Rattle.std.specs.Prelude.{option_map, option_to_list}
use Rattle.bl_policy.specs.declared.access.Access.{Access}
use Rattle.bl_policy.specs.declared.denial.Clause.{Clause}
use Rattle.bl_work.specs.Modes.{alters}
use Rattle.bl_work.specs.declared.answer.Answer.{Answer}
use Rattle.bl_work.specs.declared.answer.Answer.TheVariants as answer
use Rattle.bl_setup.specs.Setup.{Setup}
use Rattle.bl_core.specs.Origins.{origin_of}
use Rattle.bl_order.specs.Order.{Entry, Line, Task, Runs, Applies, accesses_of}
use Rattle.bl_order.specs.Past.{Past}
use Rattle.bl_order.specs.Machine.{State, Event, Opens, Admits, Starts, Ends, Loses, change, children_at, past_at, session_at, start, state_after}
use Rattle.bl_hall.specs.Chronicle.{Chronicle, state_now, with_event}
use Rattle.bl_report.specs.Entered.{admission_of, admissions, entries_from}
use Rattle.bl_report.specs.Items.{altering, ended_at, entering, item_of, items_at, judged_at, report_items, right_since, starting, told, unbegun}
use Rattle.bl_report.specs.declared.item.Blame.{Blame}
use Rattle.bl_report.specs.declared.item.Happening.TheVariants.{Held, Denied}
use Rattle.bl_report.specs.declared.item.ReportItem.{ReportItem}
use Rattle.bl_report.proofs.Opening.{state-with}

admissions-append : (a b : List ReportItem) → admissions (a ++ b) ≡ admissions a ++ admissions b
admissions-append [] b = refl
admissions-append (item ∷ a) b =
    ap (λ l. admission_of item.happening ++ l) (admissions-append a b) ∙ sym (append_assoc (admission_of item.happening) (admissions a) (admissions b))

from-append : (p : ℕ) (a b : List Entry) → entries_from p (a ++ b) ≡ entries_from p a ++ entries_from (p + length a) b
from-append p [] b = let same : p ≡ p + length (let none : List Entry = [] in none) = omega arith in ap (λ q. entries_from q b) same
from-append p (entry ∷ a) b =
    let same : suc p + length a ≡ p + suc (length a) = omega arith in
    ap (λ l. (p, origin_of entry) ∷ l) (from-append (suc p) a b ∙ ap (λ q. entries_from (suc p) a ++ entries_from q b) same)

-- an item that may stand before others
passed : (b : Bool) (item : ReportItem) (l : List ReportItem) → admission_of item.happening ≡ [] → admissions l ≡ [] → admissions (cond b (item ∷ []) [] ++ l) ≡ []
passed true item l own e = ap (λ k. k ++ admissions l) own ∙ e
passed false item l own e = e

-- the entries that an event lets into the order
abbrev entries_by : State → Event → List Entry
entries_by x (Opens s) = []
entries_by x (Admits i o w) = Line i o (session_at x i).subject w ∷ []
entries_by x (Starts n) = []
entries_by x (Ends n) = children_at x n
entries_by x (Loses n) = []

order-step : (x : State) (e : Event) → (change x e).order ≡ x.order ++ entries_by x e
order-step x (Opens s) = sym (append-nil x.order)
order-step x (Admits i o w) = refl
order-step x (Starts n) = sym (append-nil x.order)
order-step x (Ends n) = refl
order-step x (Loses n) = sym (append-nil x.order)

module _ (until : ℕ → Option ℕ) (since : ℕ → Access → Option ℕ) (x : State) (number : ℕ) where
  entering-tells : (subject place : ℕ) (entries : List Entry) → admissions (entering until since x number subject place entries) ≡ entries_from place entries
  entering-tells subject place [] = refl
  entering-tells subject place (entry ∷ entries) = ap (λ l. (place, origin_of entry) ∷ l) (entering-tells subject (suc place) entries)

  altering-tells : (n : ℕ) (past : Past) (accesses : List Access) → admissions (altering until since x number n past accesses) ≡ []
  altering-tells n past [] = refl
  altering-tells n past (access ∷ rest) = passed (alters access.mode) _ (altering until since x number n past rest) refl (altering-tells n past rest)

  held-tells : (n : ℕ) (past : Past) (accesses : List Access)
      → admissions (map (λ access. item_of until since x number past.subject (Held n (judged_at until since x number past access) (until n))) accesses) ≡ []
  held-tells n past [] = refl
  held-tells n past (access ∷ rest) = held-tells n past rest

  blame-tells : (n : ℕ) (past : Past) (clause : Clause) (o : Option Blame)
      → admissions (option_to_list (option_map (λ blame. item_of until since x number past.subject (Denied n clause blame)) o)) ≡ []
  blame-tells n past clause None = refl
  blame-tells n past clause (Some blame) = refl

  starting-tells : (n : ℕ) (past : Past) (a : Answer) (task : Task) → admissions (starting until since x number n past a task) ≡ []
  starting-tells n past (answer.Done shown) task = held-tells n past (accesses_of task)
  starting-tells n past answer.RuleDone (Runs script index) = refl
  starting-tells n past answer.RuleDone (Applies rule) = refl
  starting-tells n past (answer.Denied denial) task = blame-tells n past denial.clause _
  starting-tells n past answer.Lost task = refl

  items-tell : (e : Event) → admissions (items_at until since x number e) ≡ entries_from (length x.order) (entries_by x e)
  items-tell (Opens s) = refl
  items-tell (Admits i o w) = refl
  items-tell (Starts n) = starting-tells n (past_at x n) (past_at x n).answer (past_at x n).task
  items-tell (Ends n) =
      admissions-append (altering until since x number n (past_at x n) (accesses_of (past_at x n).task)) _
      ∙ ap (λ l. l ++ admissions (entering until since x number (past_at x n).subject (length x.order) (children_at x n)))
      (altering-tells n (past_at x n) (accesses_of (past_at x n).task))
      ∙ entering-tells (past_at x n).subject (length x.order) (children_at x n)
  items-tell (Loses n) = refl

module _ (until : ℕ → Option ℕ) where
  all-told : (h : Chronicle) (es : List Event)
      → entries_from 0 (state_now h).order ++ admissions (told until h es) ≡ entries_from 0 (state_after (state_now h) es).order
  all-told h [] = append-nil (entries_from 0 (state_now h).order)
  all-told h (e ∷ es) =
      let x = state_now h in
      let none : 0 + length x.order ≡ length x.order = omega arith in
      ap (λ l. entries_from 0 (state_now h).order ++ l)
      (admissions-append (items_at until (right_since h) (state_now h) (suc (length h.trail)) e) (told until (with_event h e) es)
      ∙ ap (λ l. l ++ admissions (told until (with_event h e) es)) (items-tell until (right_since h) (state_now h) (suc (length h.trail)) e))
      ∙ sym (append_assoc (entries_from 0 (state_now h).order) (entries_from (length (state_now h).order) (entries_by (state_now h) e))
      (admissions (told until (with_event h e) es)))
      ∙ ap (λ l. l ++ admissions (told until (with_event h e) es))
      (ap (λ q. entries_from 0 (state_now h).order ++ entries_from q (entries_by (state_now h) e)) (sym none)
      ∙ sym (from-append 0 (state_now h).order (entries_by (state_now h) e))
      ∙ ap (entries_from 0) (sym (order-step (state_now h) e) ∙ ap (λ (y : State). y.order) (sym (state-with h e))))
      ∙ all-told (with_event h e) es
      ∙ ap (λ y. entries_from 0 (state_after y es).order) (state-with h e)

pub admitted-order : (setup : Setup) (limit : ℕ) (events : List Event) → admissions (report_items setup limit events) ≡ entries_from 0 (state_after (start setup limit) events).order
admitted-order setup limit events = all-told (λ n. ended_at n 0 events) (unbegun setup limit) events
