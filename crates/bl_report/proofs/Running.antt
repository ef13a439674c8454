-- Which places run behind an event.
use Rattle.std.proofs.Common.{◌≡◌, ℕ, Bool, true, false, cond, refl, ◌∙◌, ap, inl, inr}
use Rattle.std.specs.Prelude.{◌==◌}
use Rattle.bl_order.specs.Past.{is_done}
use Rattle.bl_order.specs.Machine.{State, Event, Opens, Admits, Starts, Ends, Loses, Needs, Phase, Waiting, Running, Ended, Gone, change, has_ended, is_over, is_running, past_at, phase_at, runs, with_phase}
use Rattle.bl_order.proofs.Sound.{IsSound}
use Rattle.bl_order.proofs.Steps.{Moves, running_is_not_over, stays, waiting_is_not_over}
use Rattle.bl_order.proofs.Trails.{moves-end, moves-lost, moves-start, or_left, phases-admitted, within}
use Rattle.bl_report.specs.Items.{ends_it}

-- whether a place runs behind an event, by whether it ran before
abbrev pub step : Bool → State → Event → ℕ → Bool
step b x (Opens s) n = b
step b x (Admits i o w) n = b
step b x (Starts k) n = cond (n == k) (is_done (past_at x k).answer) b
step b x (Ends k) n = cond (n == k) false b
step b x (Loses k) n = cond (n == k) false b

either : (b : Bool) (p q : Phase) → is_running (cond b p q) ≡ cond b (is_running p) (is_running q)
either true p q = refl
either false p q = refl

started : (d : Bool) → is_running (cond d Running Ended) ≡ d
started true = refl
started false = refl

moved : (x y : State) (k : ℕ) (p : Phase) → Moves x y k p → (n : ℕ) → runs y n ≡ cond (n == k) (is_running p) (runs x n)
moved x y k p moves n = ap is_running (moves.phases n) ∙ either (n == k) p (phase_at x n)

pub lost-moves : (x : State) (sound : IsSound x) (k : ℕ) → Needs x (Loses k) → Moves x (with_phase x k Gone) k Gone
lost-moves x sound k (inl running) =
    moves-lost x sound k (within x sound k running) (running_is_not_over (phase_at x k) running) (inl (or_left x sound k running (runs x k) (has_ended x k) running))
lost-moves x sound k (inr may) = moves-lost x sound k may.there (waiting_is_not_over (phase_at x k) may.waits) (inr may.clear)

pub one-step : (x : State) (e : Event) → IsSound x → Needs x e → (n : ℕ) → runs (change x e) n ≡ step (runs x n) x e n
one-step x (Opens s) sound needs n = refl
one-step x (Admits i o w) sound needs n = ap is_running (phases-admitted x sound i o w n)
one-step x (Starts k) sound may n =
    moved x (change x (Starts k)) k (cond (is_done (past_at x k).answer) Running Ended) (moves-start x sound k may) n
    ∙ ap (λ d. cond (n == k) d (runs x n)) (started (is_done (past_at x k).answer))
one-step x (Ends k) sound running n = moved x (change x (Ends k)) k Ended (moves-end x sound k running) n
one-step x (Loses k) sound needs n = moved x (with_phase x k Gone) k Gone (lost-moves x sound k needs) n

-- what has ended stays so
pub over-step : (x : State) (e : Event) → IsSound x → Needs x e → (n : ℕ) → has_ended x n ≡ true → has_ended (change x e) n ≡ true
over-step x (Opens s) sound needs n over = over
over-step x (Admits i o w) sound needs n over = ap is_over (phases-admitted x sound i o w n) ∙ over
over-step x (Starts k) sound may n over = stays x (change x (Starts k)) k _ sound (moves-start x sound k may) n over
over-step x (Ends k) sound running n over = stays x (change x (Ends k)) k _ sound (moves-end x sound k running) n over
over-step x (Loses k) sound needs n over = stays x (with_phase x k Gone) k _ sound (lost-moves x sound k needs) n over

closed-by : (x y : State) (k : ℕ) (p : Phase) → Moves x y k p → is_over p ≡ true → (n : ℕ) → (n == k) ≡ true → has_ended y n ≡ true
closed-by x y k p moves over n same = ap is_over (moves.phases n) ∙ ap (λ b. is_over (cond b p (phase_at x n))) same ∙ over

-- and what an event ends has ended
pub over-now : (x : State) (e : Event) → IsSound x → Needs x e → (n : ℕ) → ends_it n e ≡ true → has_ended (change x e) n ≡ true
over-now x (Opens s) sound needs n ends = absurd (cc)
over-now x (Admits i o w) sound needs n ends = absurd (cc)
over-now x (Starts k) sound may n ends = absurd (cc)
over-now x (Ends k) sound running n ends = closed-by x (change x (Ends k)) k Ended (moves-end x sound k running) refl n ends
over-now x (Loses k) sound needs n ends = closed-by x (with_phase x k Gone) k Gone (lost-moves x sound k needs) refl n ends

over-idle : (p : Phase) → is_over p ≡ true → is_running p ≡ false
over-idle Waiting over = absurd (cc)
over-idle Running over = absurd (cc)
over-idle Ended over = refl
over-idle Gone over = refl

-- what has ended does not run
pub ended-idle : (x : State) (n : ℕ) → has_ended x n ≡ true → runs x n ≡ false
ended-idle x n over = over-idle (phase_at x n) over
