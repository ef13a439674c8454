-- What a turn's calls of the gate come to.
use Rattle.std.proofs.Common.{◌≡◌, ℕ, ◌<◌, ◌⊎◌, inl, inr, Bool, true, false, cond, ◌||◌, true≢false, List, ◌++◌, Some, refl, sym, ap, ◌∙◌, subst}
use Rattle.bl_work.specs.declared.answer.Answer.{Answer}
use Rattle.bl_work.specs.declared.answer.Answer.TheVariants as answers
use Rattle.bl_order.specs.Past.{is_done}
use Rattle.bl_order.specs.Machine.{State, Event, Starts, Ends, Loses, Phase, Waiting, Running, Ended, Gone, is_waiting, is_running, is_over, is_gone, is_lost, phase_at, past_at, has_ended, MayStart, Needs, change, with_phase}
use Rattle.bl_order.proofs.Sound.{IsSound}
use Rattle.bl_order.proofs.Steps.{equal_self, Moves}
use Rattle.bl_order.proofs.Trails.{moves-start, moves-end, past-started, past-ended, within}
use Rattle.bl_order.proofs.PlaceLaws.{answered}
use Rattle.bl_hall.specs.Chronicle.{HasTrail}
use Rattle.bl_policy.specs.declared.denial.Denial.{Denial}
use Rattle.bl_core.specs.Answers.{IsStarted}
use Rattle.bl_core.specs.declared.machine.Started.{Started}
use Rattle.bl_core.specs.declared.machine.Started.TheVariants as begun
use Rattle.bl_gate.specs.Gates.{PassView, Calls, Follows, hall_seen, state_seen}
use Rattle.bl_worker.specs.declared.turn.Turn.{Turn}
use Rattle.bl_worker.specs.declared.turn.Turn.TheVariants.{Idle, Missed, Denied, Done, Lost}
use Rattle.bl_worker.specs.Turns.{Closes, HasEndedAs, HasWorked, IsDenied, IsDoneOrRuleDone, IsLost, Settles, has_begun}
use Rattle.bl_gate.proofs.Passing.{lost_moves}
use Rattle.bl_worker.proofs.Settling.{happened, of_start, passes_later, settles_call, settles_calls}

-- where a place is after a move
moved : (x y : State) (k : ℕ) (p : Phase) → Moves x y k p → phase_at y k ≡ p
moved x y k p moves = moves.phases k ∙ ap (λ b. cond b p (phase_at x k)) (equal_self k)

-- what does not run ends at its start
pub ends_at_start : (x : State) (n : ℕ) (Kind : Answer → Type 0) → IsSound x → Needs x (Starts n) → is_done (past_at x n).answer ≡ false → Kind (past_at x n).answer
    → HasEndedAs (change x (Starts n)) n Kind
ends_at_start x n Kind sound may not_run kind = record {
  ended = ap is_over (moved x (change x (Starts n)) n _ (moves-start x sound n may) ∙ ap (λ b. cond b Running Ended) not_run);
  kind = subst (λ p. Kind p.answer) (sym (past-started x sound n may n)) kind;
}

done_is : (a : Answer) → is_done a ≡ true → IsDoneOrRuleDone a
done_is (answers.Done shown) h = tt
done_is answers.RuleDone h = tt
done_is (answers.Denied denial) h = absurd (true≢false (sym h))
done_is answers.Lost h = absurd (true≢false (sym h))

-- what runs ends as done
pub ends_as_done : (x : State) (n : ℕ) → IsSound x → Needs x (Ends n) → HasEndedAs (change x (Ends n)) n IsDoneOrRuleDone
ends_as_done x n sound running =
    let here : n < _ = within x sound n running in record {
      ended = ap is_over (moved x (change x (Ends n)) n Ended (moves-end x sound n running));
      kind = subst (λ p. IsDoneOrRuleDone p.answer) (sym (past-ended x sound n running n here)) (done_is (past_at x n).answer (sound.allowed n here running));
    }

-- what is lost ends as lost
pub ends_as_lost : (x : State) (n : ℕ) → IsSound x → Needs x (Loses n) → HasEndedAs (change x (Loses n)) n IsLost
ends_as_lost x n sound needs =
    let gone : phase_at (with_phase x n Gone) n ≡ Gone = moved x (with_phase x n Gone) n Gone (lost_moves x n sound needs) in
    let y : State = with_phase x n Gone in record {
      ended = ap is_over gone;
      kind = subst IsLost (sym ((answered y.setup (is_lost y) y.order n).gone (ap is_gone gone))) tt;
    }

-- an entry that might start and may no more has begun
pub taken : (p q r : PassView) (n : ℕ) → Follows p q → HasTrail (hall_seen q) → Follows q r → HasTrail (hall_seen r) → MayStart (state_seen q) n → (¬ MayStart (state_seen r) n)
    → (has_begun (state_seen p) n ≡ false) × (has_begun (state_seen r) n ≡ true)
taken p q r n follows legal follows' legal' may no_more = (had_not (has_begun (state_seen p) n) refl, now ((passes_later q r follows' legal').ready n may))
  where
    waits_only : (f : Phase) → is_waiting f ≡ true → (is_running f || is_over f) ≡ true → ⊥
    waits_only Waiting w b = true≢false (sym b)
    waits_only Running w b = true≢false (sym w)
    waits_only Ended w b = true≢false (sym w)
    waits_only Gone w b = true≢false (sym w)

    had_not : (b : Bool) → has_begun (state_seen p) n ≡ b → has_begun (state_seen p) n ≡ false
    had_not false e = e
    had_not true e = absurd (waits_only (phase_at (state_seen q) n) may.waits ((passes_later p q follows legal).begun n e))

    now : (MayStart (state_seen r) n) ⊎ (has_begun (state_seen r) n ≡ true) → has_begun (state_seen r) n ≡ true
    now (inl m) = absurd (no_more m)
    now (inr b) = b

-- ---- turns

-- what was done from a pass that owns as much
pub worked_from : (p q r : PassView) (t : Turn) → q.own ≡ p.own → HasWorked q r t → HasWorked p r t
worked_from p q r Idle same h = (h.0 ∙ same, h.1)
worked_from p q r (Missed n) same h = (h.0 ∙ same, h.1)
worked_from p q r (Denied n) same h = h
worked_from p q r (Done n) same h = h
worked_from p q r (Lost n) same h = h

-- the pass's own event after the start has ended what was started
pub settles_run : (p q r : PassView) (n : ℕ) (A : State → Type 0) → Calls p (Starts n) A q → Follows q r → Closes n q r → Settles p r
settles_run p q r n A first follows closes =
    settles_calls p q r n closes.event A _ first closes.call follows (λ k e. let h : closes.event ≡ Starts k = cc in closes.is_no_start k h) closes.ended

pub settles_from : (p q r : PassView) → q.own ≡ p.own → Settles q r → Settles p r
settles_from p q r same s = record { gained = s.gained; own = s.own ∙ ap (λ (l : List ℕ). l ++ s.gained) same; within = s.within; settled = s.settled }

same_place : (n k : ℕ) → Some (Starts n) ≡ Some (Starts k) → n ≡ k
same_place n k e = of_start (Starts n) (Starts k) e

-- a start that ended its entry
pub started_ends : (p q : PassView) (n : ℕ) (A : State → Type 0) (Kind : Answer → Type 0) → Calls p (Starts n) A q → Follows p q → HasTrail (hall_seen q)
    → ((x : State) → A x → (is_done (past_at x n).answer ≡ false) × Kind (past_at x n).answer) → HasEndedAs (state_seen q) n Kind
started_ends p q n A Kind call follows legal kind =
    let h = happened p q (Starts n) A call follows legal in
    let k = kind h.before h.answered in
    subst (λ (y : State). HasEndedAs y n Kind) (sym h.leads) (ends_at_start h.before n Kind h.sound h.needs k.0 k.1)

pub settles_start : (p q : PassView) (n : ℕ) (A : State → Type 0) (Kind : Answer → Type 0) → Calls p (Starts n) A q → HasEndedAs (state_seen q) n Kind → Settles p q
settles_start p q n A Kind call ended = settles_call p q (Starts n) A call (λ k e. subst (λ (j : ℕ). has_ended (state_seen q) j ≡ true) (same_place n k e) ended.ended)

pub is_denied : (x : State) (n : ℕ) (d : Denial) (b : Started) → b ≡ begun.Denied d → IsStarted x n b → (is_done (past_at x n).answer ≡ false) × IsDenied (past_at x n).answer
is_denied x n d b is h = let e : (past_at x n).answer ≡ answers.Denied d = subst (IsStarted x n) is h in (ap is_done e, subst IsDenied (sym e) tt)

pub is_rule_done : (x : State) (n : ℕ) (b : Started) → b ≡ begun.RuleDone → IsStarted x n b → (is_done (past_at x n).answer ≡ false) × IsDoneOrRuleDone (past_at x n).answer
is_rule_done x n b is h = let e : (past_at x n).answer ≡ answers.RuleDone = subst (IsStarted x n) is h in (ap is_done e, subst IsDoneOrRuleDone (sym e) tt)

-- an end
pub finished : (p q : PassView) (n : ℕ) (A : State → Type 0) → Calls p (Ends n) A q → Follows p q → HasTrail (hall_seen q) → HasEndedAs (state_seen q) n IsDoneOrRuleDone
finished p q n A call follows legal =
    let h = happened p q (Ends n) A call follows legal in
    subst (λ (y : State). HasEndedAs y n IsDoneOrRuleDone) (sym h.leads) (ends_as_done h.before n h.sound h.needs)

pub gone : (p q : PassView) (n : ℕ) (A : State → Type 0) → Calls p (Loses n) A q → Follows p q → HasTrail (hall_seen q) → HasEndedAs (state_seen q) n IsLost
gone p q n A call follows legal =
    let h = happened p q (Loses n) A call follows legal in
    subst (λ (y : State). HasEndedAs y n IsLost) (sym h.leads) (ends_as_lost h.before n h.sound h.needs)

pub silent : (p q : PassView) (e : Event) (A : State → Type 0) → Calls p e A q → Calls p e (λ _. Unit {0}) q
silent p q e A call = record { trail = call.trail; from = call.from; seen = call.seen; own = call.own; answered = tt }

no_start_is_end : (n k : ℕ) → Ends n ≡ Starts k → ⊥
no_start_is_end n k e = absurd (cc)

no_start_is_loss : (n k : ℕ) → Loses n ≡ Starts k → ⊥
no_start_is_loss n k e = absurd (cc)

pub closes_end : (p q : PassView) (n : ℕ) (A : State → Type 0) → Calls p (Ends n) A q → Follows p q → HasTrail (hall_seen q) → Closes n p q
closes_end p q n A call follows legal = record { event = Ends n; is_no_start = no_start_is_end n; call = silent p q (Ends n) A call; ended = (finished p q n A call follows legal).ended }

pub closes_loss : (p q : PassView) (n : ℕ) (A : State → Type 0) → Calls p (Loses n) A q → Follows p q → HasTrail (hall_seen q) → Closes n p q
closes_loss p q n A call follows legal = record { event = Loses n; is_no_start = no_start_is_loss n; call = silent p q (Loses n) A call; ended = (gone p q n A call follows legal).ended }

pub settles_loss : (p q : PassView) (n : ℕ) (A : State → Type 0) → Calls p (Loses n) A q → Settles p q
settles_loss p q n A call = settles_call p q (Loses n) A call (λ k e. absurd (no_start_is_loss n k (let h : Loses n ≡ Starts k = cc in h)))

pub settles_end : (p q : PassView) (n : ℕ) (A : State → Type 0) → Calls p (Ends n) A q → Settles p q
settles_end p q n A call = settles_call p q (Ends n) A call (λ k e. absurd (no_start_is_end n k (let h : Ends n ≡ Starts k = cc in h)))
