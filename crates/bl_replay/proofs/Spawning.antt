-- What the monitor says of a running place.
use Rattle.std.proofs.Common.{◌≡◌, ℕ, ◌<◌, true, false, cond, List, [], get_or, length, refl, sym, ◌∙◌, ap, subst, inl, inr, arith, true≢false}
use Rattle.std.specs.Prelude.{IsTrue, map, nat_lt}
use Rattle.std.proofs.lemmas.Bool.Decides.{nat_tests}
use Rattle.bl_work.specs.Effects.{children}
use Rattle.bl_work.specs.declared.answer.Answer.{Answer}
use Rattle.bl_order.specs.AtHand.{RestsOnEndedPlaces}
use Rattle.bl_order.specs.Order.{Entry, unnamed}
use Rattle.bl_order.specs.Past.{Past}
use Rattle.bl_order.specs.Machine.{State, Phase, Waiting, Running, Ended, Gone, is_gone, is_running, phase_at, past_at, runs}
use Rattle.bl_monitor.specs.Heard.{place_at, spawned_by}
use Rattle.bl_replay.specs.Keeps.{KeepsAt}
use Rattle.bl_replay.specs.Marks.{AreForetold, lost_later}
use Rattle.bl_replay.specs.Told.{IsTold}
use Rattle.bl_replay.specs.declared.replayer.Replayer.{Replayer}
use Rattle.bl_replay.proofs.Foresight.{told-now}

running-kept : (p : Phase) → is_running p ≡ true → is_gone p ≡ false
running-kept Waiting h = refl
running-kept Running h = refl
running-kept Ended h = refl
running-kept Gone h = absurd (true≢false (sym h))

below : (k n : ℕ) → k < n → nat_lt k n ≡ true
below k n lt = grind (arith, nat_tests)

module _ (x : State) (r : Replayer) (k : KeepsAt x r) (foretold : AreForetold (lost_later r.marks.items) x) (rests : RestsOnEndedPlaces x)
    (n : ℕ) (running : IsTrue (runs x n)) (open_yet : lost_later r.marks.items n ≡ false) (within : n < length r.answers.items) where
  told : IsTold x.setup (lost_later r.marks.items) (map unnamed x.order) r.monitor
  told = subst (λ (o : List Entry). IsTold x.setup (lost_later r.marks.items) o r.monitor) (sym k.order) k.fed.told

  here : n < length r.monitor.order
  here = omega (arith, within, k.fed.many)

  now : place_at r.monitor n ≡ past_at x n
  now = told-now x rests (lost_later r.marks.items) foretold r.monitor told n here (inr (inl running)) (running-kept (phase_at x n) running ∙ sym open_yet)

  -- its children
  pub spawned-are : spawned_by r.monitor n ≡ children (past_at x n).effects
  spawned-are = ap (λ b. cond b (children (place_at r.monitor n).effects) []) (below n (length r.monitor.order) here) ∙ ap (λ (p : Past). children p.effects) now

  -- its answer
  pub answer-is : (a : Answer) → a ≡ get_or r.answers.items n a → a ≡ (past_at x n).answer
  answer-is a at = at ∙ k.fed.are n a within ∙ ap (λ (p : Past). p.answer) now
