-- What the end of a trail knows of its places says what was said at their starts and ends.
use Rattle.std.proofs.Common.{◌≡◌, ◌≢◌, ℕ, ◌<◌, ◌≤◌, Bool, true, false, cond, List, [], ◌∷◌, length, refl, sym, ◌∙◌, ap, subst, inl, inr, arith, ◌⊎◌, length-append, true≢false}
use Rattle.std.specs.Prelude.{Option, Some, None, codes}
use Rattle.bl_policy.specs.declared.denial.Denial.{Denial}
use Rattle.bl_work.specs.Effects.{Effect}
use Rattle.bl_work.specs.Names.{KnownNames}
use Rattle.bl_work.specs.declared.answer.Answer.{Answer}
use Rattle.bl_work.specs.declared.answer.Answer.TheVariants.{Done, RuleDone, Denied, Lost}
use Rattle.bl_setup.specs.Setup.{Setup}
use Rattle.bl_order.specs.Order.{Entry, Line, Task, Runs, Applies}
use Rattle.bl_order.specs.Past.{Past, answer_of, content_of, deeds, earlier, fault_of_task, is_done, place, policy_of}
use Rattle.bl_order.specs.Machine.{State, Event, Opens, Admits, Starts, Ends, Loses, Phase, Waiting, Running, Ended, Gone, IsTrail, MayStart, Needs, change, children_at, has_ended, is_gone, is_lost, is_over, is_running, is_waiting, past_at, phase_at, runs, session_at, state_after, with_phase}
use Rattle.bl_order.proofs.Present.{lost-answer}
use Rattle.bl_order.proofs.Sound.{IsSound}
use Rattle.bl_order.proofs.Steps.{Moves, equal_self, not_over_is_not_gone, other, running_is_not_over, stays, waiting_is_not_over}
use Rattle.bl_order.proofs.Trails.{moves-end, moves-lost, moves-start, or_left, past-ended, past-started, past-step, phases-admitted, sound-step, within}
use Rattle.bl_trail.specs.EventText.{start_words}
use Rattle.bl_trail.specs.StartWords.{words_text}
use Rattle.bl_trail.specs.declared.text.Words.TheVariants as said
use Rattle.bl_audit.specs.Comes.{words_later}

-- the answer that the end knows of a place
abbrev pub told_of : State → ℕ → Option Answer
told_of x n = cond (has_ended x n) (Some (past_at x n).answer) None

longer : (x : State) (e : Event) → length x.order ≤ length (change x e).order
longer x (Opens s) = omega arith
longer x (Admits i o w) = omega (arith, length-append x.order (Line i o (session_at x i).subject w ∷ []))
longer x (Starts k) = omega arith
longer x (Ends k) = omega (arith, length-append x.order (children_at x k))
longer x (Loses k) = omega arith

equal_or_not : (m n : ℕ) → (m ≡ n) ⊎ (m ≢ n)
equal_or_not m n = grind arith

-- a loss as a move
lost-moves : (x : State) (sound : IsSound x) (k : ℕ) → Needs x (Loses k) → Moves x (with_phase x k Gone) k Gone
lost-moves x sound k (inl running) =
    moves-lost x sound k (within x sound k running) (running_is_not_over (phase_at x k) running) (inl (or_left x sound k running (runs x k) (has_ended x k) running))
lost-moves x sound k (inr may) = moves-lost x sound k may.there (waiting_is_not_over (phase_at x k) may.waits) (inr may.clear)

-- ---- what has ended has ended for good

ended-stays : (x : State) (e : Event) (n : ℕ) → IsSound x → Needs x e → has_ended x n ≡ true → has_ended (change x e) n ≡ true
ended-stays x (Opens s) n sound needs over = over
ended-stays x (Admits i o w) n sound needs over = ap is_over (phases-admitted x sound i o w n) ∙ over
ended-stays x (Starts k) n sound may over = stays x (change x (Starts k)) k _ sound (moves-start x sound k may) n over
ended-stays x (Ends k) n sound running over = stays x (change x (Ends k)) k Ended sound (moves-end x sound k running) n over
ended-stays x (Loses k) n sound needs over = stays x (with_phase x k Gone) k Gone sound (lost-moves x sound k needs) n over

pub ended-later : (x : State) (es : List Event) (n : ℕ) → IsSound x → IsTrail x es → n < length x.order → has_ended x n ≡ true
    → (has_ended (state_after x es) n ≡ true) × (past_at (state_after x es) n ≡ past_at x n)
ended-later x [] n sound steps lt over = (over, refl)
ended-later x (e ∷ es) n sound steps lt over =
    let next : (has_ended (state_after (change x e) es) n ≡ true) × (past_at (state_after (change x e) es) n ≡ past_at (change x e) n) =
    ended-later (change x e) es n (sound-step x e sound steps.0) steps.1 (omega (arith, lt, longer x e)) (ended-stays x e n sound steps.0 over) in
    (next.0, next.1 ∙ past-step x e sound steps.0 n lt over)

-- ---- what runs has run

-- the place runs still, or has ended with an answer after which its start said that it runs
abbrev HasRun : State → ℕ → Type 0
HasRun x n = (runs x n ≡ true) ⊎ ((has_ended x n ≡ true) × (words_later (Some (past_at x n).answer) ≡ said.Run))

done-ran : (a : Answer) → is_done a ≡ true → words_later (Some a) ≡ said.Run
done-ran (Done shown) h = refl
done-ran RuleDone h = absurd (true≢false (sym h))
done-ran (Denied d) h = absurd (true≢false (sym h))
done-ran Lost h = absurd (true≢false (sym h))

-- the phase that a move sets
set-phase : (x y : State) (k : ℕ) (p : Phase) → Moves x y k p → phase_at y k ≡ p
set-phase x y k p moves = moves.phases k ∙ ap (λ b. cond b p (phase_at x k)) (equal_self k)

module _ (x : State) (n : ℕ) (sound : IsSound x) (lt : n < length x.order) (running : runs x n ≡ true) where
  allowed : is_done (past_at x n).answer ≡ true
  allowed = sound.allowed n lt running

  -- another place moves
  others : (y : State) (k : ℕ) (p : Phase) → Moves x y k p → n ≢ k → HasRun y n
  others y k p moves apart = inl (ap is_running (other x y k p sound moves n apart) ∙ running)

  running-step : (e : Event) → Needs x e → HasRun (change x e) n
  running-step (Opens s) needs = inl running
  running-step (Admits i o w) needs = inl (ap is_running (phases-admitted x sound i o w n) ∙ running)
  running-step (Starts k) may = go (equal_or_not n k)
    where
      go : (n ≡ k) ⊎ (n ≢ k) → HasRun (change x (Starts k)) n
      go (inl same) = absurd (true≢false (sym running ∙ waits (phase_at x n) (subst (λ j. is_waiting (phase_at x j) ≡ true) (sym same) may.waits)))
        where
          waits : (p : Phase) → is_waiting p ≡ true → is_running p ≡ false
          waits Waiting h = refl
          waits Running h = absurd (true≢false (sym h))
          waits Ended h = refl
          waits Gone h = refl
      go (inr apart) = others (change x (Starts k)) k _ (moves-start x sound k may) apart
  running-step (Ends k) needs = go (equal_or_not n k)
    where
      go : (n ≡ k) ⊎ (n ≢ k) → HasRun (change x (Ends k)) n
      go (inl same) = inr (
        subst (λ j. has_ended (change x (Ends k)) j ≡ true) (sym same) (ap is_over (set-phase x (change x (Ends k)) k Ended (moves-end x sound k needs))),
        ap (λ p. words_later (Some p.answer)) (past-ended x sound k needs n lt) ∙ done-ran (past_at x n).answer allowed,
      )
      go (inr apart) = others (change x (Ends k)) k Ended (moves-end x sound k needs) apart
  running-step (Loses k) needs = go (equal_or_not n k)
    where
      gone : phase_at (with_phase x k Gone) k ≡ Gone
      gone = set-phase x (with_phase x k Gone) k Gone (lost-moves x sound k needs)

      go : (n ≡ k) ⊎ (n ≢ k) → HasRun (with_phase x k Gone) n
      go (inl same) = subst (HasRun (with_phase x k Gone)) (sym same) (inr (
        ap is_over gone,
        ap (λ a. words_later (Some a)) (lost-answer x.setup (is_lost (with_phase x k Gone)) x.order k (ap is_gone gone)),
      ))
      go (inr apart) = others (with_phase x k Gone) k Gone (lost-moves x sound k needs) apart

run-step : (x : State) (n : ℕ) (sound : IsSound x) → n < length x.order → HasRun x n → (e : Event) → Needs x e → HasRun (change x e) n
run-step x n sound lt (inl running) e needs = running-step x n sound lt running e needs
run-step x n sound lt (inr t) e needs =
    inr (ended-stays x e n sound needs t.0, ap (λ p. words_later (Some p.answer)) (past-step x e sound needs n lt t.0) ∙ t.1)

run-later : (x : State) (es : List Event) (n : ℕ) → IsSound x → IsTrail x es → n < length x.order → HasRun x n → HasRun (state_after x es) n
run-later x [] n sound steps lt ran = ran
run-later x (e ∷ es) n sound steps lt ran =
    run-later (change x e) es n (sound-step x e sound steps.0) steps.1 (omega (arith, lt, longer x e)) (run-step x n sound lt ran e steps.0)

told-run : (x : State) (n : ℕ) → HasRun x n → words_later (told_of x n) ≡ said.Run
told-run x n (inl running) = ap (λ b. words_later (cond b (Some (past_at x n).answer) None)) (running_is_not_over (phase_at x n) running)
told-run x n (inr t) = ap (λ b. words_later (cond b (Some (past_at x n).answer) None)) t.0 ∙ t.1

-- ---- what a start said

not_lost : (b : Bool) (f : Option Denial) (t : Task) (es : List Effect) → b ≡ false → answer_of b f t es ≡ Lost → ⊥
not_lost true f t es kept h = absurd (true≢false kept)
not_lost false (Some d) t es kept h = absurd (cc)
not_lost false None (Runs script index) es kept h = absurd (cc)
not_lost false None (Applies rule) es kept h = absurd (cc)

alive : (s : Setup) (l : ℕ → Bool) (A : List Entry) (n : ℕ) → l n ≡ false → (place s l A n).answer ≡ Lost → ⊥
alive s l A n kept is =
    let past : Past = place s l A n in
    not_lost (l n) (fault_of_task (policy_of s (earlier s l A n)) past.subject past.carried past.task) past.task
    (deeds past.task (content_of s (earlier s l A n))) kept is

-- what ends at its start says its answer
says : (names : KnownNames) (a : Answer) → is_done a ≡ false → (a ≡ Lost → ⊥) → start_words names a ≡ words_text names (words_later (Some a))
says names (Done shown) h kept = absurd (true≢false h)
says names RuleDone h kept = refl
says names (Denied d) h kept = refl
says names Lost h kept = absurd (kept refl)

says-run : (names : KnownNames) (a : Answer) → is_done a ≡ true → start_words names a ≡ codes " run"
says-run names (Done shown) h = refl
says-run names RuleDone h = absurd (true≢false (sym h))
says-run names (Denied d) h = absurd (true≢false (sym h))
says-run names Lost h = absurd (true≢false (sym h))

module _ (x : State) (n : ℕ) (es : List Event) (sound : IsSound x) (may : MayStart x n) (steps : IsTrail (change x (Starts n)) es) where
  abbrev next : State
  next = change x (Starts n)

  abbrev end : State
  end = state_after next es

  next-sound : IsSound next
  next-sound = sound-step x (Starts n) sound may

  phase-now : (b : Bool) → is_done (past_at x n).answer ≡ b → phase_at next n ≡ cond b Running Ended
  phase-now b is = set-phase x next n _ (moves-start x sound n may) ∙ ap (λ t. cond t Running Ended) is

  said-at : (b : Bool) → is_done (past_at x n).answer ≡ b → start_words x.setup.names (past_at x n).answer ≡ words_text x.setup.names (words_later (told_of end n))
  said-at true is =
      says-run x.setup.names (past_at x n).answer is
      ∙ sym (ap (words_text x.setup.names) (told-run end n (run-later next es n next-sound steps may.there (inl (ap is_running (phase-now true is))))))
  said-at false is =
      let t : (has_ended end n ≡ true) × (past_at end n ≡ past_at next n) = ended-later next es n next-sound steps may.there (ap is_over (phase-now false is)) in
      says x.setup.names (past_at x n).answer is
      (alive x.setup (is_lost x) x.order n (not_over_is_not_gone (phase_at x n) (waiting_is_not_over (phase_at x n) may.waits)))
      ∙ ap (λ a. words_text x.setup.names (words_later (Some a))) (sym (ap (λ p. p.answer) (t.1 ∙ past-started x sound n may n)))
      ∙ ap (λ b. words_text x.setup.names (words_later (cond b (Some (past_at end n).answer) None))) (sym t.0)

  pub said-start : start_words x.setup.names (past_at x n).answer ≡ words_text x.setup.names (words_later (told_of end n))
  said-start = said-at (is_done (past_at x n).answer) refl

-- ---- what an end said

module _ (x : State) (n : ℕ) (es : List Event) (sound : IsSound x) (running : runs x n ≡ true) (steps : IsTrail (change x (Ends n)) es) where
  abbrev after : State
  after = change x (Ends n)

  pub said-end : (has_ended (state_after after es) n ≡ true) × ((past_at (state_after after es) n).answer ≡ (past_at x n).answer)
  said-end =
      let here : n < length x.order = within x sound n running in
      let t : (has_ended (state_after after es) n ≡ true) × (past_at (state_after after es) n ≡ past_at after n) =
      ended-later after es n (sound-step x (Ends n) sound running) steps (omega (arith, here, longer x (Ends n)))
      (ap is_over (set-phase x after n Ended (moves-end x sound n running))) in
      (t.0, ap (λ p. p.answer) (t.1 ∙ past-ended x sound n running n here))
