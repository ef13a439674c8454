-- What the order has at a place, read off what is kept of it.
use Rattle.std.proofs.Common.{◌≡◌, ℕ, ◌<◌, length, get_or, refl, ap, sym, ◌∙◌, subst}
use Rattle.std.specs.Prelude.{All, Some, slice_get, option_map}
use Rattle.std.proofs.lemmas.Option.{slice_get-map, slice_get_read, get_or_from_slice_get}
use Rattle.bl_work.specs.Readable.{IsReadable}
use Rattle.bl_work.specs.declared.work.Work.{Work}
use Rattle.bl_work.specs.declared.work.Work.TheVariants as works
use Rattle.bl_setup.specs.Setup.{Setup}
use Rattle.bl_order.specs.Known.{IsAsked, KnowsAnswer, KnowsTask, KnowsWork}
use Rattle.bl_order.specs.Order as orders
use Rattle.bl_order.specs.Past.{Past, child_task, deeds, fault_of_task, first_task}
use Rattle.bl_order.specs.Machine.{State, is_lost, past_at}
use Rattle.bl_order.specs.Now.{content_at, policy_at}
use Rattle.bl_order.proofs.KnownAnswers.{answer_known, denial_known}
use Rattle.bl_core.specs.Keeps.{Keeps, Tells}
use Rattle.bl_place.specs.Places.{entry_by, entry_of, place_in, work_in, HasBehaviour}
use Rattle.bl_core.specs.View.{state_of}
use Rattle.bl_place.specs.declared.place.Descent.{Descent}
use Rattle.bl_place.specs.declared.place.Descent.TheVariants.{Line}
use Rattle.bl_place.specs.declared.place.Place.{Place}
use Rattle.bl_core.specs.declared.machine.Core.TheInside.{Inside}
use Rattle.bl_core.proofs.Reading.{accesses-known}
use Rattle.bl_core.proofs.Views.{length-order}

module _ (c : Inside) (n : ℕ) (s : Place) (lt : n < length c.places.items) (at : s ≡ get_or c.places.items n s) where
  pub entry-at : slice_get (state_of c).order n ≡ Some (entry_of s)
  entry-at = slice_get-map entry_of c.places.items n ∙ ap (option_map entry_of) (slice_get_read c.places.items (length c.places.items) n s refl lt at)

  pub entry-by : (d : Descent) → s.descent ≡ d → slice_get (state_of c).order n ≡ Some (entry_by s.subject d)
  entry-by d is = entry-at ∙ ap (λ (v : Descent). Some (entry_by s.subject v)) is

  -- the work of a line is one that some bytes ask
  pub work-readable : (session ordinal : ℕ) (w : Work) → s.descent ≡ Line session ordinal w → All (IsAsked c.setup.names) (state_of c).order
      → IsReadable c.setup.names w
  work-readable session ordinal w is all =
      let here : slice_get (state_of c).order n ≡ Some (orders.Line session ordinal s.subject w) = entry-by (Line session ordinal w) is in
      subst (IsAsked c.setup.names) (get_or_from_slice_get (state_of c).order n (orders.Line session ordinal s.subject w) (orders.Child 0 0) here)
      (all n (orders.Child 0 0) (subst (λ (m : ℕ). n < m) (sym (length-order c)) lt))

-- what a place does is known
pub task-known : (setup : Setup) (w : Work) (index : ℕ) → KnowsWork setup w → HasBehaviour w index → KnowsTask setup (child_task (first_task w) index)
task-known setup (works.Behaviour script) index knows lt = accesses-known setup (works.Behaviour script) index knows lt
task-known setup (works.Rule rule) index knows lt = knows

-- the answer of a place names no ids but those of the setup
pub answer-known : (c : Inside) → Keeps c → (n : ℕ) → n < length c.places.items → KnowsAnswer c.setup (past_at (state_of c) n).answer
answer-known c k n lt =
    let x : State = state_of c in
    let past : Past = past_at x n in
    let told : Tells c.setup c.places.items n past = k.told n lt in
    answer_known c.setup (is_lost x n) (fault_of_task (policy_at x n) past.subject past.carried past.task) past.task
    (deeds past.task (λ doc. content_at x doc n))
    (denial_known c.setup (policy_at x n) past.subject (subst (λ (s : ℕ). s < length c.setup.policy.subjects) (sym told.subject) told.speaks) past.carried past.task
    (subst (KnowsTask c.setup) (sym told.task)
    (task-known c.setup (work_in c.places.items n) (place_in c.places.items n).index told.knows told.behaviour)))
