-- What a start lends stays lent: its place runs, and is lent the same.
use Rattle.std.proofs.Common.{◌≡◌, ◌≢◌, ℕ, ◌⊎◌, inl, inr, Bool, true, false, cond, refl, ap, sym, ◌∙◌, true≢false}
use mathlib.Core.Path.{fun_ext}
use Rattle.bl_order.specs.Past.{is_done, place, content_before}
use Rattle.bl_order.specs.Machine.{State, Phase, Waiting, Running, Ended, Gone, MayStart, Starts, change, past_at, phase_at, runs, is_gone, is_lost, is_running, is_waiting}
use Rattle.bl_order.proofs.Sound.{IsSound}
use Rattle.bl_order.proofs.Steps.{Moves, equal_self, not_equal}
use Rattle.bl_order.proofs.Trails.{moves-start}
use Rattle.bl_core.specs.Answers.{loan_at, loan_of}
use Rattle.bl_core.proofs.Grown.{equal_or_not}

not_gone : (p : Phase) → is_waiting p ≡ true → is_gone p ≡ false
not_gone Waiting h = refl
not_gone Running h = absurd (true≢false (sym h))
not_gone Ended h = absurd (true≢false (sym h))
not_gone Gone h = absurd (true≢false (sym h))

begun : (b : Bool) → is_gone (cond b Running Ended) ≡ false
begun true = refl
begun false = refl

module _ (x : State) (n : ℕ) (sound : IsSound x) (may : MayStart x n) where
  moves : Moves x (change x (Starts n)) n (cond (is_done (past_at x n).answer) Running Ended)
  moves = moves-start x sound n may

  phase_then : phase_at (change x (Starts n)) n ≡ cond (is_done (past_at x n).answer) Running Ended
  phase_then = moves.phases n ∙ ap (λ (b : Bool). cond b (cond (is_done (past_at x n).answer) Running Ended) (phase_at x n)) (equal_self n)

  pub runs-started : is_done (past_at x n).answer ≡ true → runs (change x (Starts n)) n ≡ true
  runs-started done = ap is_running (phase_then ∙ ap (λ (b : Bool). cond b Running Ended) done)

  lost : (m : ℕ) → (m ≡ n) ⊎ (m ≢ n) → is_lost (change x (Starts n)) m ≡ is_lost x m
  lost m (inl e) =
      ap (is_lost (change x (Starts n))) e ∙ ap is_gone phase_then ∙ begun (is_done (past_at x n).answer)
      ∙ sym (not_gone (phase_at x n) may.waits) ∙ ap (is_lost x) (sym e)
  lost m (inr ne) =
      ap is_gone (moves.phases m ∙ ap (λ (b : Bool). cond b (cond (is_done (past_at x n).answer) Running Ended) (phase_at x m)) (not_equal m n ne))

  pub loan-started : loan_at (change x (Starts n)) n ≡ loan_at x n
  loan-started =
      ap (λ (l : ℕ → Bool). loan_of n (place x.setup l x.order n).task (λ doc. content_before x.setup l x.order doc n))
      (fun_ext (λ m. lost m (equal_or_not m n)))
