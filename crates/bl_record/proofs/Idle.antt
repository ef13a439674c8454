-- Where nothing runs but what was started, and that ends.
use Rattle.std.proofs.Common.{◌≡◌, ◌≢◌, ℕ, true, false, cond, refl, ◌∙◌, ap, inl, inr, ◌⊎◌}
use Rattle.std.specs.Prelude.{◌==◌}
use Rattle.std.proofs.lemmas.Bool.Decides.{eqb_tells}
use Rattle.bl_core.specs.Answers.{loan_at}
use Rattle.bl_order.specs.Headline.{IsReached}
use Rattle.bl_order.specs.Machine.{State, Starts, Ends, Phase, Running, Ended, MayStart, change, is_running, past_at, phase_at, runs}
use Rattle.bl_order.specs.Past.{is_done}
use Rattle.bl_order.specs.Running.{GoesOn}
use Rattle.bl_order.proofs.Reached.{sound-reached}
use Rattle.bl_order.proofs.Running.{goes_on-started}
use Rattle.bl_order.proofs.Steps.{Moves}
use Rattle.bl_order.proofs.Trails.{moves-end, moves-start}
use Rattle.bl_record.proofs.Loans.{lent_still}
use Rattle.bl_record.specs.Nearing.{IsIdle}

-- the phase of a place where one moves
moved : (x y : State) (k : ℕ) (p : Phase) → Moves x y k p → (m : ℕ) → (is_running p ≡ false) ⊎ (m ≢ k) → (m ≢ k → runs x m ≡ false) → runs y m ≡ false
moved x y k p moves m either others = go (eqb_tells m k) either
  where
    go : (((m == k) ≡ true) × (m ≡ k)) ⊎ (((m == k) ≡ false) × (m ≢ k)) → (is_running p ≡ false) ⊎ (m ≢ k) → runs y m ≡ false
    go (inl t) (inl none) = ap is_running (moves.phases m ∙ ap (λ b. cond b p (phase_at x m)) t.0) ∙ none
    go (inl t) (inr ne) = absurd (ne t.1)
    go (inr t) either = ap is_running (moves.phases m ∙ ap (λ b. cond b p (phase_at x m)) t.0) ∙ others t.1

module _ (x : State) (reached : IsReached x) (k : ℕ) where
  -- what ends at its start
  pub idle-begun : MayStart x k → is_done (past_at x k).answer ≡ false → IsIdle x → IsIdle (change x (Starts k))
  idle-begun may none idle m =
      moved x (change x (Starts k)) k (cond (is_done (past_at x k).answer) Running Ended) (moves-start x (sound-reached x reached) k may) m
      (inl (ap (λ b. is_running (cond b Running Ended)) none)) (λ ne. idle m)

  -- what runs from its start
  pub only-begun : MayStart x k → IsIdle x → (m : ℕ) → m ≢ k → runs (change x (Starts k)) m ≡ false
  only-begun may idle m ne =
      moved x (change x (Starts k)) k (cond (is_done (past_at x k).answer) Running Ended) (moves-start x (sound-reached x reached) k may) m (inr ne) (λ apart. idle m)

  pub begun-goes : MayStart x k → is_done (past_at x k).answer ≡ true → GoesOn x (change x (Starts k)) k
  begun-goes may done = goes_on-started x k (sound-reached x reached) may done

  pub begun-lent : MayStart x k → is_done (past_at x k).answer ≡ true → loan_at (change x (Starts k)) k ≡ loan_at x k
  begun-lent may done = lent_still x (change x (Starts k)) k (begun-goes may done)

  -- and ends
  pub idle-ended : runs x k ≡ true → ((m : ℕ) → m ≢ k → runs x m ≡ false) → IsIdle (change x (Ends k))
  idle-ended running others m = moved x (change x (Ends k)) k Ended (moves-end x (sound-reached x reached) k running) m (inl refl) (others m)
