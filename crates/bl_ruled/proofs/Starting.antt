-- What the start of a place applies is what is kept of its rule.
use Rattle.std.proofs.Common.{◌≡◌, ℕ, zero, suc, ◌<◌, Bool, true, false, List, [], ◌∷◌, length, refl, sym, ◌∙◌, ap, subst, arith, get_or, true≢false}
use Rattle.std.specs.Prelude.{IsTrue, Option, Some, None, if◌then◌else◌, slice_get}
use Rattle.std.proofs.lemmas.List.{get_or-map}
use Rattle.bl_policy.specs.declared.denial.Denial.{Denial}
use Rattle.bl_policy.specs.declared.rule.Rule.{Rule}
use Rattle.bl_work.specs.Effects.{Effect}
use Rattle.bl_work.specs.declared.work.Work.{Work}
use Rattle.bl_work.specs.declared.work.Work.TheVariants as work
use Rattle.bl_setup.specs.Setup.{Setup}
use Rattle.bl_order.specs.Headline.{Holds}
use Rattle.bl_order.specs.Legal.{HasPlace, IsLegal}
use Rattle.bl_order.specs.Machine.{State, MayStart, Phase, is_gone, is_lost, is_waiting, past_at, phase_at}
use Rattle.bl_order.specs.Machine as machine
use Rattle.bl_order.specs.Now.{content_at, policy_at}
use Rattle.bl_order.specs.Order.{Entry, Task, Runs, Applies, unnamed}
use Rattle.bl_order.specs.Order as order
use Rattle.bl_order.specs.Past.{Past, answer_of, at_place, child_task, content_before, deeds, earlier, fault_of_task, first_task, is_done, no_entry, place, policy_before, subject_of, task_of, was_lost}
use Rattle.bl_order.proofs.Places.{at_place-earlier}
use Rattle.bl_replay.specs.Keeps.{KeepsAt}
use Rattle.bl_replay.specs.Kept.{entry_by, entry_in, no_place, place_in}
use Rattle.bl_replay.specs.declared.place.Origin.{Origin}
use Rattle.bl_replay.specs.declared.place.Origin.TheVariants.{Line, Child}
use Rattle.bl_replay.specs.declared.replayer.Replayer.{Replayer}
use Rattle.bl_replay.proofs.Moving.{many-places}
use Rattle.bl_explain.specs.Run.{applied_by, rule_of}
use Rattle.bl_ruled.specs.Noting.{rule_by, rule_in}

-- ---- what waits is not lost

waits-kept : (p : Phase) → IsTrue (is_waiting p) → is_gone p ≡ false
waits-kept machine.Waiting waits = refl
waits-kept machine.Running waits = refl
waits-kept machine.Ended waits = refl
waits-kept machine.Gone waits = absurd (true≢false (sym waits))

not_lost : (fault : Option Denial) (task : Task) (effects : List Effect) → was_lost (answer_of false fault task effects) ≡ false
not_lost (Some denial) task effects = refl
not_lost None (Runs script index) effects = refl
not_lost None (Applies rule) effects = refl

pub applied-is : (x : State) (n event : ℕ) → MayStart x n → applied_by event (past_at x n) ≡ rule_of event (past_at x n).subject (past_at x n).task
applied-is x n event may =
    let task = (past_at x n).task in
    let fault = fault_of_task (policy_at x n) (past_at x n).subject (past_at x n).carried task in
    let effects = deeds task (λ doc. content_at x doc n) in
    let kept : was_lost (past_at x n).answer ≡ false =
    ap (λ lost. was_lost (answer_of lost fault task effects)) (waits-kept (phase_at x n) may.waits) ∙ not_lost fault task effects in
    ap (λ lost. if lost then [] else rule_of event (past_at x n).subject task) kept

-- ---- a rule is a line's

line-subject : (e : Entry) (records : List Past) (s : ℕ) (w : Work) → unnamed e ≡ order.Line 0 0 s w → subject_of records e ≡ s
line-subject (order.Line session ordinal t v) records s w is = same is
  where
    same : {a b : Work} → order.Line 0 0 t a ≡ order.Line 0 0 s b → t ≡ s
    same q = cc
line-subject (order.Child parent which) records s w is = absurd (cc)

child-is : (e : Entry) (parent which : ℕ) → unnamed e ≡ order.Child parent which → e ≡ order.Child parent which
child-is (order.Line session ordinal t v) parent which is = absurd (cc)
child-is (order.Child other more) parent which is = is

pub within : (l : List Entry) (n : ℕ) → n < length l → slice_get l n ≡ Some (get_or l n no_entry)
within [] n lt = absurd (omega arith)
within (e ∷ l) zero lt = refl
within (e ∷ l) (suc n) lt = within l n (omega arith)

-- a rule is not done as a behaviour is
not_done : (lost : Bool) (fault : Option Denial) (rule : Rule) (effects : List Effect) → is_done (answer_of lost fault (Applies rule) effects) ≡ true → ⊥
not_done true fault rule effects done = true≢false (sym done)
not_done false (Some denial) rule effects done = true≢false (sym done)
not_done false None rule effects done = true≢false (sym done)

parent-rule : (task : Task) (index : ℕ) (rule : Rule) → child_task task index ≡ Applies rule → (own : Rule) × (task ≡ Applies own)
parent-rule (Runs script behaviour) index rule is = absurd (cc)
parent-rule (Applies own) index rule is = (own, refl)

module _ (setup : Setup) (lost : ℕ → Bool) (entries : List Entry) where
  -- what a parent did was no rule
  parent-ran : (n : ℕ) (own : Rule) → (place setup lost entries n).task ≡ Applies own → IsTrue (is_done (place setup lost entries n).answer) → ⊥
  parent-ran n own is done =
      let record_of = place setup lost entries n in
      let fault = λ (t : Task). fault_of_task (policy_before setup lost entries n) record_of.subject record_of.carried t in
      not_done (lost n) (fault (Applies own)) own (deeds (Applies own) (λ doc. content_before setup lost entries doc n))
      (subst (λ (t : Task). is_done (answer_of (lost n) (fault t) t (deeds t (λ doc. content_before setup lost entries doc n))) ≡ true) is done)

  -- so a child has none
  pub no-child : (n parent which : ℕ) (rule : Rule) → IsLegal setup lost entries → n < length entries → get_or entries n no_entry ≡ order.Child parent which
      → (place setup lost entries n).task ≡ Applies rule → ⊥
  no-child n parent which rule legal lt is task =
      let has : HasPlace setup lost entries n parent which = legal.placed n parent which (within entries n lt ∙ ap Some is) in
      let by_entry : task_of (earlier setup lost entries n) (order.Child parent which) ≡ Applies rule =
      subst (λ (e : Entry). task_of (earlier setup lost entries n) e ≡ Applies rule) is task in
      let own = parent-rule (at_place (earlier setup lost entries n) parent).task _ rule by_entry in
      parent-ran parent own.0
      (sym (ap (λ (p : Past). p.task) (at_place-earlier setup lost entries n parent has.behind)) ∙ own.1) has.done

module _ (x : State) (r : Replayer) (keeps : KeepsAt x r) (legal : IsLegal x.setup (is_lost x) x.order) (n event : ℕ) (lt : n < length x.order) where
  by-kept : (w : Work) (o : Origin) (index : ℕ) → unnamed (get_or x.order n no_entry) ≡ entry_by w o → (past_at x n).task ≡ child_task (first_task w) index
      → rule_of event (past_at x n).subject (past_at x n).task ≡ rule_by event w o
  by-kept (work.Behaviour script) o index entry task = ap (rule_of event (past_at x n).subject) task
  by-kept (work.Rule rule) (Line s) index entry task =
      ap (rule_of event (past_at x n).subject) task
      ∙ ap (λ (t : ℕ). rule_of event t (Applies rule)) (line-subject (get_or x.order n no_entry) (earlier x.setup (is_lost x) x.order n) s (work.Rule rule) entry)
  by-kept (work.Rule rule) (Child parent which) index entry task =
      absurd (no-child x.setup (is_lost x) x.order n parent which rule legal lt (child-is (get_or x.order n no_entry) parent which entry) task)

  kept-entry : unnamed (get_or x.order n no_entry) ≡ entry_in (place_in r.places.items n)
  kept-entry =
      let many : length x.order ≡ length r.places.items = many-places x r keeps in
      sym (get_or-map unnamed x.order n no_entry no_entry lt)
      ∙ ap (λ (l : List Entry). get_or l n no_entry) keeps.order
      ∙ get_or-map entry_in r.places.items n no_place no_entry (omega (arith, lt, many))

  pub rule-kept : rule_of event (past_at x n).subject (past_at x n).task ≡ rule_in event (place_in r.places.items n)
  rule-kept =
      let p = place_in r.places.items n in
      by-kept p.work p.origin p.index kept-entry (keeps.tasks n (omega (arith, lt, many-places x r keeps)))

-- what the start of a place applies is the rule of what is kept of it
pub start-applies : (x : State) (r : Replayer) (n event : ℕ) → KeepsAt x r → Holds x → MayStart x n
    → applied_by event (past_at x n) ≡ rule_in event (place_in r.places.items n)
start-applies x r n event keeps holds may = applied-is x n event may ∙ rule-kept x r keeps holds.legal n event may.there
