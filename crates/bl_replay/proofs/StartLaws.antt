-- What a start says of its place.
use Rattle.std.proofs.Common.{◌≡◌, ℕ, ◌<◌, Bool, true, false, ◌&&◌, not, List, length, get_or, refl, sym, ◌∙◌, ap, inr, arith, true≢false}
use Rattle.std.specs.Prelude.{Option, Some, None, is_none, is_some}
use Rattle.bl_policy.specs.declared.denial.Denial.{Denial}
use Rattle.bl_work.specs.Effects.{Effect}
use Rattle.bl_work.specs.declared.answer.Answer.{Answer}
use Rattle.bl_work.specs.declared.answer.Answer.TheVariants as answer
use Rattle.bl_order.specs.AtHand.{RestsOnEndedPlaces}
use Rattle.bl_order.specs.Order.{Task, Runs, Applies, is_rule}
use Rattle.bl_order.specs.Past.{is_done, answer_of}
use Rattle.bl_order.specs.Machine.{State, Phase, Waiting, Running, Ended, Gone, is_waiting, is_over, is_gone, phase_at, past_at, is_lost, MayStart}
use Rattle.bl_monitor.specs.Heard.{Heard, fault_of}
use Rattle.bl_replay.specs.Fed.{IsFed}
use Rattle.bl_replay.specs.Marks.{AreForetold}
use Rattle.bl_trail.specs.StartWords.{words_of}
use Rattle.bl_replay.specs.Words.{AreWords}
use Rattle.bl_order.specs.Order.{unnamed}
use Rattle.std.specs.Prelude.{map}
use Rattle.bl_trail.specs.declared.text.Words.{Words}
use Rattle.bl_trail.specs.declared.text.Words.TheVariants.{Run}
use Rattle.bl_replay.proofs.Foresight.{told-now, runs-now}

-- what waits has not ended, and is not lost
waiting-unended : (p : Phase) → is_waiting p ≡ true → is_over p ≡ false
waiting-unended Waiting h = refl
waiting-unended Running h = refl
waiting-unended Ended h = absurd (true≢false (sym h))
waiting-unended Gone h = absurd (true≢false (sym h))

waiting-kept : (p : Phase) → is_waiting p ≡ true → is_gone p ≡ false
waiting-kept Waiting h = refl
waiting-kept Running h = refl
waiting-kept Ended h = refl
waiting-kept Gone h = absurd (true≢false (sym h))

-- what is not lost has words
has_words : (b : Bool) (f : Option Denial) (t : Task) (es : List Effect) → b ≡ false → words_of (answer_of b f t es) ≡ None → ⊥
has_words true f t es h none = absurd (true≢false h)
has_words false (Some d) t es h none = absurd (cc)
has_words false None (Runs script index) es h none = absurd (cc)
has_words false None (Applies rule) es h none = absurd (cc)

pub done_words : (a : Answer) → is_done a ≡ true → words_of a ≡ Some Run
done_words (answer.Done shown) h = refl
done_words answer.RuleDone h = absurd (true≢false (sym h))
done_words (answer.Denied d) h = absurd (true≢false (sym h))
done_words answer.Lost h = absurd (true≢false (sym h))

pub none_by_rule : (r : Bool) (f : Option Denial) → r ≡ true → (not r && is_none f) ≡ false
none_by_rule r f h = ap (λ b. not b && is_none f) h

pub none_by_fault : (r : Bool) (f : Option Denial) → is_some f ≡ true → (not r && is_none f) ≡ false
none_by_fault true f h = refl
none_by_fault false (Some d) h = refl
none_by_fault false None h = absurd (true≢false (sym h))

pub none_neither : (r : Bool) (f : Option Denial) → r ≡ false → is_some f ≡ false → (not r && is_none f) ≡ true
none_neither true f h k = absurd (true≢false h)
none_neither false (Some d) h k = absurd (true≢false k)
none_neither false None h k = refl

module _ (x : State) (marks : ℕ → Bool) (h : Heard) (answers : List Answer) (fed : IsFed x.setup marks (map unnamed x.order) h answers) (foretold : AreForetold marks x) (rests : RestsOnEndedPlaces x) (n : ℕ) (may : MayStart x n) (within : n < length answers) where
  told-within : n < length h.order
  told-within = omega (arith, within, fed.many)

  kept : is_lost x n ≡ false
  kept = waiting-kept (phase_at x n) may.waits

  -- not lost later: the answer that was kept tells
  pub answered : marks n ≡ false → (d : Answer) → get_or answers n d ≡ (past_at x n).answer
  answered plain d =
      fed.are n d within
      ∙ ap (λ p. p.answer) (told-now x rests marks foretold h fed.told n told-within (inr (inr may)) (kept ∙ sym plain))

  pub some-words : words_of (past_at x n).answer ≡ None → ⊥
  some-words none = has_words (is_lost x n) _ (past_at x n).task _ kept none

  -- lost later: the fault tells
  pub runs : marks n ≡ true → is_done (past_at x n).answer ≡ (not (is_rule (past_at x n).task) && is_none (fault_of h n))
  runs later = runs-now x rests marks foretold h fed.told n told-within (inr (inr may)) (waiting-unended (phase_at x n) may.waits) kept later

-- what an answer that is not of a loss says is what its start says
pub are-words : (x : State) (n : ℕ) (later : Bool) (said : Option Words) → words_of (past_at x n).answer ≡ said → (said ≡ None → ⊥) → AreWords x n later said
are-words x n later (Some words) is some = is
are-words x n later None is some = absurd (some refl)
