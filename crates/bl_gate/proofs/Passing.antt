-- What a state comes to as a trail goes on: what has begun or ended stays so, and what may start may start until it has begun.
use Rattle.std.proofs.Common.{◌≡◌, ◌≢◌, ℕ, ◌<◌, ◌≤◌, Bool, true, false, cond, ◌||◌, List, [], ◌∷◌, ◌++◌, length, refl, sym, ◌∙◌, ap, inl, inr, arith, ◌⊎◌, true≢false, length-append}
use Rattle.bl_order.specs.Order.{Line, Task, conflict}
use Rattle.bl_order.specs.Past.{is_done}
use Rattle.bl_order.specs.Machine.{State, Event, Opens, Admits, Starts, Ends, Loses, Phase, Running, Ended, Gone, is_waiting, is_running, is_over, phase_at, past_at, has_ended, runs, MayStart, Needs, IsTrail, change, with_phase, session_at, state_after}
use Rattle.bl_order.proofs.Sound.{IsSound, has_begun}
use Rattle.bl_order.proofs.Steps.{Moves, same_or_other, other, equal_self, stays, running_is_not_over, waiting_is_not_over}
use Rattle.bl_order.proofs.Trails.{moves-start, moves-end, moves-lost, within, past-admitted, phases-admitted, sound-step}

-- the loss of a place is a move
pub lost_moves : (x : State) (k : ℕ) → IsSound x → Needs x (Loses k) → Moves x (with_phase x k Gone) k Gone
lost_moves x k sound (inl running) = moves-lost x sound k (within x sound k running) (running_is_not_over (phase_at x k) running) (inl (or_left (runs x k) (has_ended x k) running))
  where
    or_left : (a b : Bool) → a ≡ true → (a || b) ≡ true
    or_left true b h = refl
    or_left false b h = absurd (true≢false (sym h))
lost_moves x k sound (inr may) = moves-lost x sound k may.there (waiting_is_not_over (phase_at x k) may.waits) (inr may.clear)

-- What an event does to what is said here: it keeps it, or gives one place a phase that has begun.
pub record Passes (x y : State) : Type 0 where
  pub ended : (n : ℕ) → has_ended x n ≡ true → has_ended y n ≡ true
  pub begun : (n : ℕ) → has_begun x n ≡ true → has_begun y n ≡ true
  pub ready : (n : ℕ) → MayStart x n → (MayStart y n) ⊎ (has_begun y n ≡ true)

abbrev begun_phase : Phase → Bool
begun_phase p = is_running p || is_over p

conflict-same : {t u v w : Task} → t ≡ v → u ≡ w → conflict t u ≡ true → conflict v w ≡ true
conflict-same {t = t} {w = w} i j h = ap (λ a. conflict a w) (sym i) ∙ ap (conflict t) (sym j) ∙ h

-- what stays as it was may start as before
ready_still : (x y : State) (n : ℕ) → MayStart x n → length x.order ≤ length y.order → phase_at y n ≡ phase_at x n
    → ((m : ℕ) → m < length x.order → (past_at y m).task ≡ (past_at x m).task) → ((m : ℕ) → has_ended x m ≡ true → has_ended y m ≡ true) → MayStart y n
ready_still x y n may longer same tasks ended = record {
  there = (let t = may.there in omega arith);
  waits = ap is_waiting same ∙ may.waits;
  clear = λ m below c. ended m (may.clear m below (conflict-same (tasks m (let t = may.there in omega arith)) (tasks n may.there) c));
}

module _ (x y : State) (k : ℕ) (p : Phase) (sound : IsSound x) (moves : Moves x y k p) (new : begun_phase p ≡ true) where
  mine : phase_at y k ≡ p
  mine = moves.phases k ∙ ap (λ b. cond b p (phase_at x k)) (equal_self k)

  passes_move : Passes x y
  passes_move = record {
    ended = λ n e. stays x y k p sound moves n e;
    begun = λ n b. begun n b (same_or_other x y k p sound moves n);
    ready = λ n may. ready n may (same_or_other x y k p sound moves n);
  }
    where
      now : (n : ℕ) → n ≡ k → has_begun y n ≡ true
      now n e = ap (λ j. begun_phase (phase_at y j)) e ∙ (ap begun_phase mine ∙ new)

      begun : (n : ℕ) → has_begun x n ≡ true → (n ≡ k) ⊎ (n ≢ k) → has_begun y n ≡ true
      begun n b (inl e) = now n e
      begun n b (inr ne) = ap begun_phase (other x y k p sound moves n ne) ∙ b

      ready : (n : ℕ) → MayStart x n → (n ≡ k) ⊎ (n ≢ k) → (MayStart y n) ⊎ (has_begun y n ≡ true)
      ready n may (inl e) = inr (now n e)
      ready n may (inr ne) = inl (ready_still x y n may moves.longer (other x y k p sound moves n ne) moves.tasks (λ m e. stays x y k p sound moves m e))

begun_if : (b : Bool) → begun_phase (cond b Running Ended) ≡ true
begun_if true = refl
begun_if false = refl

pub passes_step : (x : State) (e : Event) → IsSound x → Needs x e → Passes x (change x e)
passes_step x (Opens s) sound needs = record { ended = λ n e. e; begun = λ n b. b; ready = λ n may. inl (record { there = may.there; waits = may.waits; clear = may.clear }) }
passes_step x (Admits i o w) sound needs = record {
  ended = λ n e. ap is_over (phases-admitted x sound i o w n) ∙ e;
  begun = λ n b. ap begun_phase (phases-admitted x sound i o w n) ∙ b;
  ready = λ n may. inl (ready_still x (change x (Admits i o w)) n may (omega (arith, length-append x.order (Line i o (session_at x i).subject w ∷ []))) (phases-admitted x sound i o w n)
      (λ m lt. ap (λ p. p.task) (past-admitted x sound i o w m lt)) (λ m e. ap is_over (phases-admitted x sound i o w m) ∙ e));
}
passes_step x (Starts k) sound may = passes_move x (change x (Starts k)) k _ sound (moves-start x sound k may) (begun_if (is_done (past_at x k).answer))
passes_step x (Ends k) sound running = passes_move x (change x (Ends k)) k Ended sound (moves-end x sound k running) refl
passes_step x (Loses k) sound needs = passes_move x (with_phase x k Gone) k Gone sound (lost_moves x k sound needs) refl

passes_then : (x y z : State) → Passes x y → Passes y z → Passes x z
passes_then x y z p q = record {
  ended = λ n e. q.ended n (p.ended n e);
  begun = λ n b. q.begun n (p.begun n b);
  ready = λ n may. by n (p.ready n may);
}
  where
    by : (n : ℕ) → (MayStart y n) ⊎ (has_begun y n ≡ true) → (MayStart z n) ⊎ (has_begun z n ≡ true)
    by n (inl may) = q.ready n may
    by n (inr b) = inr (q.begun n b)

pub passes_trail : (x : State) (es : List Event) → IsSound x → IsTrail x es → Passes x (state_after x es)
passes_trail x [] sound trail = record { ended = λ n e. e; begun = λ n b. b; ready = λ n may. inl may }
passes_trail x (e ∷ es) sound trail =
    passes_then x (change x e) (state_after (change x e) es) (passes_step x e sound trail.0) (passes_trail (change x e) es (sound-step x e sound trail.0) trail.1)

-- ---- two parts of a trail

pub after_parts : (x : State) (es fs : List Event) → state_after x (es ++ fs) ≡ state_after (state_after x es) fs
after_parts x [] fs = refl
after_parts x (e ∷ es) fs = after_parts (change x e) es fs

pub trail_front : (x : State) (es fs : List Event) → IsTrail x (es ++ fs) → IsTrail x es
trail_front x [] fs trail = tt
trail_front x (e ∷ es) fs trail = (trail.0, trail_front (change x e) es fs trail.1)

pub trail_back : (x : State) (es fs : List Event) → IsTrail x (es ++ fs) → IsTrail (state_after x es) fs
trail_back x [] fs trail = trail
trail_back x (e ∷ es) fs trail = trail_back (change x e) es fs trail.1
