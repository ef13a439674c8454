-- A place starts, or is lost before it starts.
use Rattle.std.proofs.Common.{◌≡◌, ℕ, ◌<◌, ◌≤◌, inr, Bool, true, false, cond, List, [], length, set, refl, ap, sym, ◌∙◌, subst, arith, true≢false, length-set}
use Rattle.std.specs.Prelude.{Option, Some, None}
use Rattle.bl_policy.specs.Policy.{SecurityPolicy}
use Rattle.bl_policy.specs.declared.denial.Denial.{Denial}
use Rattle.bl_policy.specs.declared.rule.Rule.{Rule}
use Rattle.bl_policy.specs.RuleEffect.{rule_fault, after_rule}
use Rattle.bl_work.specs.Effects.{Effect}
use Rattle.bl_work.specs.declared.answer.Answer.{Answer}
use Rattle.bl_work.specs.declared.answer.Answer.TheVariants as answers
use Rattle.bl_order.specs.Order.{Task, Runs, Applies, is_rule}
use Rattle.bl_order.specs.Past.{Past, is_done, is_rule_done, has_deleted, changed, fault_of_task, answer_of}
use Rattle.bl_order.specs.Machine.{Phase, Waiting, Running, Ended, Gone, MayStart, Starts, Loses, change, with_phase, past_at, is_lost, is_running, is_waiting, is_gone, phase_at}
use Rattle.bl_order.specs.Now.{policy_at}
use Rattle.bl_order.proofs.Sound.{IsSound}
use Rattle.bl_order.proofs.Reached.{sound-reached}
use Rattle.bl_order.proofs.HeadlineProof.{holds-reached}
use Rattle.bl_order.proofs.Steps.{Moves, equal_self, waiting_is_not_over}
use Rattle.bl_order.proofs.Trails.{moves-start, moves-lost, past-started}
use Rattle.bl_order.proofs.Present.{policy_now-started, policy_now-lost, moves_on-reached, lost-answer}
use Rattle.bl_place.specs.Places.{place_in, phase_of}
use Rattle.bl_place.specs.Shelves.{AreEmptied}
use Rattle.bl_core.specs.View.{state_of}
use Rattle.bl_core.specs.Weights.{ruled}
use Rattle.bl_core.specs.Keeps.{Keeps, AreShelved}
use Rattle.bl_place.specs.declared.place.Place.{Place}
use Rattle.bl_place.specs.declared.place.Stand.TheVariants as stands
use Rattle.bl_place.specs.declared.shelf.Shelf.{Shelf}
use Rattle.bl_core.specs.declared.machine.Core.TheInside.{Inside}
use Rattle.bl_core.proofs.Grown.{Same}
use Rattle.bl_core.proofs.Views.{length-order}
use Rattle.bl_core.proofs.Moved.{kept-moved}
use Rattle.bl_core.proofs.Written.{Written, append_nil, state-written, moved-written}
use Rattle.bl_core.proofs.Shelving.{shelved-emptied, shelved-idle}

pub waiting_is_not_running : (p : Phase) → is_waiting p ≡ true → is_running p ≡ false
waiting_is_not_running Waiting h = refl
waiting_is_not_running Running h = absurd (true≢false (sym h))
waiting_is_not_running Ended h = refl
waiting_is_not_running Gone h = refl

waiting_is_not_gone : (p : Phase) → is_waiting p ≡ true → is_gone p ≡ false
waiting_is_not_gone Waiting h = refl
waiting_is_not_gone Running h = refl
waiting_is_not_gone Ended h = refl
waiting_is_not_gone Gone h = absurd (true≢false (sym h))

pub there-may : (c : Inside) (n : ℕ) → MayStart (state_of c) n → n < length c.places.items
there-may c n may = subst (λ (m : ℕ). n < m) (length-order c) may.there

-- no place follows where the order does not grow
none-new : (c d : Inside) (n : ℕ) (t : Place) → Written c d n t [] → (m : ℕ) → length c.places.items ≤ m → m < length d.places.items → ⊥
none-new c d n t w m ge lt = omega (arith, ge, lt, ap length (w.places ∙ append_nil (set c.places.items n t)), length-set c.places.items n t)

module _ (c d : Inside) (n : ℕ) (t : Place) (w : Written c d n t []) (k : Keeps c) (may : MayStart (state_of c) n) (same : Same (place_in c.places.items n) t) where
  sound : IsSound (state_of c)
  sound = sound-reached (state_of c) k.reached

  -- ---- it starts
  module _ (stands_ : phase_of t.stand ≡ cond (is_done (past_at (state_of c) n).answer) Running Ended)
      (answer : (a : Answer) → t.stand ≡ stands.Ended a → (past_at (state_of c) n).answer ≡ a)
      (policy : d.policy ≡ changed (past_at (state_of c) n).answer (past_at (state_of c) n).task (past_at (state_of c) n).subject c.policy)
      (subjects : length d.policy.subjects ≡ length c.policy.subjects)
      (documents : length d.policy.documents ≡ length c.policy.documents)
      (as_many : length d.shelves.items ≡ length c.shelves.items)
      (shelved : AreShelved (change (state_of c) (Starts n)) d.shelves.items) where
    pub state-started : state_of d ≡ change (state_of c) (Starts n)
    state-started = state-written c d n t (cond (is_done (past_at (state_of c) n).answer) Running Ended) w same stands_

    pub kept-started : Keeps d
    kept-started =
        kept-moved c d (Starts n) k may
        (moved-written c d n t [] w (there-may c n may) same k (Starts n) state-started
        (λ a is. ap (λ (p : Past). p.answer) (past-started (state_of c) sound n may n) ∙ answer a is)
        (λ m ge lt. absurd (none-new c d n t w m ge lt))
        (policy ∙ ap (changed (past_at (state_of c) n).answer (past_at (state_of c) n).task (past_at (state_of c) n).subject) k.policy
        ∙ sym (policy_now-started (state_of c) n sound may))
        subjects documents as_many shelved refl)

  -- what a start that does not run leaves on the shelves
  pub shelved-ended : (h : List Shelf) → is_done (past_at (state_of c) n).answer ≡ false → AreEmptied (has_deleted (past_at (state_of c) n)) c.shelves.items h
      → AreShelved (change (state_of c) (Starts n)) h
  shelved-ended h not_done emptied =
      shelved-emptied (state_of c) (change (state_of c) (Starts n)) n (cond (is_done (past_at (state_of c) n).answer) Running Ended) sound
      (moves-start (state_of c) sound n may) (waiting_is_not_running (phase_at (state_of c) n) may.waits)
      (ap (λ (b : Bool). is_running (cond b Running Ended)) not_done) (has_deleted (past_at (state_of c) n)) c.shelves.items h emptied
      (λ o. (moves_on-reached (state_of c) k.reached).start_content n o may) k.shelved

  -- ---- it is lost
  module _ (lost : t.stand ≡ stands.Ended answers.Lost) (policy : d.policy ≡ c.policy) (shelves : d.shelves.items ≡ c.shelves.items) where
    moves : Moves (state_of c) (with_phase (state_of c) n Gone) n Gone
    moves = moves-lost (state_of c) sound n may.there (waiting_is_not_over (phase_at (state_of c) n) may.waits) (inr may.clear)

    gone : is_lost (with_phase (state_of c) n Gone) n ≡ true
    gone = ap is_gone (moves.phases n ∙ ap (λ (b : Bool). cond b Gone (phase_at (state_of c) n)) (equal_self n))

    pub state-lost : state_of d ≡ change (state_of c) (Loses n)
    state-lost = state-written c d n t Gone w same (ap phase_of lost)

    pub kept-lost : Keeps d
    kept-lost =
        kept-moved c d (Loses n) k (inr may)
        (moved-written c d n t [] w (there-may c n may) same k (Loses n) state-lost
        (λ a is. lost-answer (state_of c).setup (is_lost (with_phase (state_of c) n Gone)) (state_of c).order n gone ∙ same_answer a (sym lost ∙ is))
        (λ m ge lt. absurd (none-new c d n t w m ge lt))
        (policy ∙ k.policy ∙ sym (policy_now-lost (state_of c) n sound moves))
        (ap (λ (p : SecurityPolicy). length p.subjects) policy) (ap (λ (p : SecurityPolicy). length p.documents) policy)
        (ap length shelves)
        (subst (AreShelved (with_phase (state_of c) n Gone)) (sym shelves)
        (shelved-idle (state_of c) (with_phase (state_of c) n Gone) n Gone sound moves (waiting_is_not_running (phase_at (state_of c) n) may.waits) refl c.shelves.items
        (λ o. (moves_on-reached (state_of c) k.reached).loss_content n o (inr may)) k.shelved))
        refl)
      where
        same_answer : (a : Answer) → stands.Ended answers.Lost ≡ stands.Ended a → answers.Lost ≡ a
        same_answer a e = cc

-- ---- what a start answers

by_fault : (f g : Option Denial) (t : Task) (es : List Effect) (b : Bool) → b ≡ false → f ≡ g → answer_of b g t es ≡ answer_of false f t es
by_fault f g t es b e h = ap (λ (v : Bool). answer_of v g t es) e ∙ ap (λ (v : Option Denial). answer_of false v t es) (sym h)

-- what a policy has against what a place does
abbrev pub fault_by : SecurityPolicy → Past → Option Denial
fault_by p past = fault_of_task p past.subject past.carried past.task

module _ (c : Inside) (k : Keeps c) (n : ℕ) (may : MayStart (state_of c) n) where
  -- the fault under the policy that is kept is the fault at the place
  pub answer-by : (f : Option Denial) → f ≡ fault_by c.policy (past_at (state_of c) n)
      → (es : List Effect) × ((past_at (state_of c) n).answer ≡ answer_of false f (past_at (state_of c) n).task es)
  answer-by f e = (
    _,
    by_fault f (fault_by (policy_at (state_of c) n) (past_at (state_of c) n)) (past_at (state_of c) n).task _ (is_lost (state_of c) n)
        (waiting_is_not_gone (phase_at (state_of c) n) may.waits)
        (e ∙ ap (λ (p : SecurityPolicy). fault_by p (past_at (state_of c) n)) (k.policy ∙ (holds-reached (state_of c) k.reached).at_ready n may)),
  )

  pub denied-by : (denial : Denial) → Some denial ≡ fault_by c.policy (past_at (state_of c) n)
      → (past_at (state_of c) n).answer ≡ answers.Denied denial
  denied-by denial e = (answer-by (Some denial) e).1

  done_runs : (t : Task) (es : List Effect) → is_rule t ≡ false → is_done (answer_of false None t es) ≡ true
  done_runs (Runs script index) es h = refl
  done_runs (Applies rule) es h = absurd (true≢false h)

  pub done-by : is_rule (past_at (state_of c) n).task ≡ false → None ≡ fault_by c.policy (past_at (state_of c) n)
      → is_done (past_at (state_of c) n).answer ≡ true
  done-by behaviour e =
      let b : (es : List Effect) × ((past_at (state_of c) n).answer ≡ answer_of false None (past_at (state_of c) n).task es) = answer-by None e in
      ap is_done b.1 ∙ done_runs (past_at (state_of c) n).task b.0 behaviour

  -- a rule answers its fault, or that it is done
  pub ruled-by : (rule : Rule) (f : Option Denial) → (past_at (state_of c) n).task ≡ Applies rule → f ≡ rule_fault c.policy (past_at (state_of c) n).subject rule
      → (past_at (state_of c) n).answer ≡ ruled f
  ruled-by rule f is e =
      let b : (es : List Effect) × ((past_at (state_of c) n).answer ≡ answer_of false f (past_at (state_of c) n).task es) =
      answer-by f (e ∙ ap (fault_of_task c.policy (past_at (state_of c) n).subject (past_at (state_of c) n).carried) (sym is)) in
      b.1 ∙ ap (λ (t : Task). answer_of false f t b.0) is ∙ go f b.0
    where
      go : (g : Option Denial) (es : List Effect) → answer_of false g (Applies rule) es ≡ ruled g
      go (Some denial) es = refl
      go None es = refl

pub ruled-not_done : (f : Option Denial) → is_done (ruled f) ≡ false
ruled-not_done (Some denial) = refl
ruled-not_done None = refl

pub ruled-ends : (f : Option Denial) → phase_of (stands.Ended (ruled f)) ≡ Ended
ruled-ends (Some denial) = refl
ruled-ends None = refl

-- what a rule makes of the policy
pub changed-ruled : (f : Option Denial) (rule : Rule) (s : ℕ) (p : SecurityPolicy) → changed (ruled f) (Applies rule) s p ≡ after_rule p s rule
changed-ruled (Some denial) rule s p = refl
changed-ruled None rule s p = refl

-- what runs is no rule that is done
pub runs-no_rule : (a : Answer) → is_done a ≡ true → is_rule_done a ≡ false
runs-no_rule (answers.Done outputs) h = refl
runs-no_rule answers.RuleDone h = absurd (true≢false (sym h))
runs-no_rule (answers.Denied denial) h = refl
runs-no_rule answers.Lost h = refl
