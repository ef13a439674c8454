-- What a running place is lent, as a trail goes on.
use Rattle.std.proofs.Common.{◌≡◌, ℕ, zero, suc, Bool, true, false, cond, ◌||◌, List, [], ◌∷◌, map, Some, refl, sym, ◌∙◌, ap, subst, inl, inr, ◌⊎◌, true≢false}
use Rattle.std.specs.Prelude.{◌==◌, slice_get}
use Rattle.bl_policy.specs.declared.access.Access.{Access}
use Rattle.bl_order.specs.Order.{accesses_of, is_declared}
use Rattle.bl_order.specs.Past.{Past, is_done}
use Rattle.bl_order.specs.Machine.{State, Event, Starts, Ends, Loses, Phase, Waiting, Running, Ended, Gone, is_waiting, is_running, is_over, past_at, phase_at, runs, MayStart, Needs, IsTrail, change, state_after}
use Rattle.bl_order.specs.Now.{content_at}
use Rattle.bl_order.specs.Headline.{IsReached}
use Rattle.bl_order.proofs.Sound.{IsSound, has_begun}
use Rattle.bl_order.proofs.Steps.{equal_self}
use Rattle.bl_order.proofs.Trails.{sound-step, moves-start}
use Rattle.bl_order.proofs.Conflicts.{or_left, or_right}
use Rattle.bl_order.proofs.Reached.{reached-next}
use Rattle.bl_core.specs.Answers.{loan_at, loan_of}
use Rattle.bl_order.specs.Running.{GoesOn}
use Rattle.bl_order.proofs.Running.{goes_on-reached}
use Rattle.bl_gate.proofs.Passing.{passes_step, passes_trail}

-- two contents that are the same for what is declared are lent alike
lent_alike : (xs : List Access) (f g : ℕ → List ℕ) → ((o : ℕ) → is_declared xs o ≡ true → f o ≡ g o) → map (λ (a : Access). f a.doc) xs ≡ map (λ (a : Access). g a.doc) xs
lent_alike [] f g same = refl
lent_alike (a ∷ xs) f g same =
    ap (λ c. c ∷ map (λ (b : Access). f b.doc) xs) (same a.doc (or_left (a.doc == a.doc) (is_declared xs a.doc) (equal_self a.doc)))
    ∙ ap (λ l. g a.doc ∷ l) (lent_alike xs f g (λ o d. same o (or_right (a.doc == o) (is_declared xs o) d)))

-- what goes on is lent what it was lent
pub lent_still : (x y : State) (n : ℕ) → GoesOn x y n → loan_at y n ≡ loan_at x n
lent_still x y n goes =
    ap (λ (p : Past). loan_of n p.task (λ doc. content_at y doc n)) goes.past
    ∙ ap (λ l. record (loan_at x n) { inputs = l }) (lent_alike (accesses_of (past_at x n).task) (λ doc. content_at y doc n) (λ doc. content_at x doc n) goes.contents)

-- a running place that nothing ends is lent all along what it was lent
pub lent_later : (x : State) (es : List Event) (n : ℕ) → IsReached x → IsTrail x es
    → ((r : ℕ) → (slice_get es r ≡ Some (Ends n)) ⊎ (slice_get es r ≡ Some (Loses n)) → ⊥) → runs x n ≡ true
    → (runs (state_after x es) n ≡ true) × (loan_at (state_after x es) n ≡ loan_at x n)
lent_later x [] n reached trail none running = (running, refl)
lent_later x (e ∷ es) n reached trail none running =
    let goes : GoesOn x (change x e) n = goes_on-reached x e n reached trail.0 running (λ i. none 0 (inl (ap Some i))) (λ i. none 0 (inr (ap Some i))) in
    let later = lent_later (change x e) es n (reached-next x e reached trail.0) trail.1 (λ r. none (suc r)) goes.running in
    (later.0, later.1 ∙ lent_still x (change x e) n goes)

-- ---- an entry starts once

-- what waits has not begun
pub begun_once : (f : Phase) → is_waiting f ≡ true → (is_running f || is_over f) ≡ true → ⊥
begun_once Waiting w b = true≢false (sym b)
begun_once Running w b = true≢false (sym w)
begun_once Ended w b = true≢false (sym w)
begun_once Gone w b = true≢false (sym w)

-- what has begun is not started again
pub no_start_again : (x : State) (es : List Event) (n k : ℕ) → IsSound x → IsTrail x es → has_begun x n ≡ true → slice_get es k ≡ Some (Starts n) → ⊥
no_start_again x [] n k sound trail begun at = absurd (cc)
no_start_again x (e ∷ es) n zero sound trail begun at =
    let is : e ≡ Starts n = cc in
    let may : MayStart x n = subst (λ (f : Event). Needs x f) is trail.0 in
    begun_once (phase_at x n) may.waits begun
no_start_again x (e ∷ es) n (suc k) sound trail begun at =
    no_start_again (change x e) es n k (sound-step x e sound trail.0) trail.1 ((passes_step x e sound trail.0).begun n begun) at

pub begun_at_start : (x : State) (n : ℕ) → IsSound x → Needs x (Starts n) → has_begun (change x (Starts n)) n ≡ true
begun_at_start x n sound may = by (is_done (past_at x n).answer) refl
  where
    by : (b : Bool) → is_done (past_at x n).answer ≡ b → has_begun (change x (Starts n)) n ≡ true
    by b e = ap is_begun ((moves-start x sound n may).phases n ∙ ap (λ c. cond c (cond (is_done (past_at x n).answer) Running Ended) (phase_at x n)) (equal_self n) ∙ ap (λ c. cond c Running Ended) e) ∙ either_begun b
      where
        is_begun : Phase → Bool
        is_begun p = is_running p || is_over p

        either_begun : (c : Bool) → is_begun (cond c Running Ended) ≡ true
        either_begun true = refl
        either_begun false = refl

-- where an entry is started, it has begun where the trail leads
pub begun_behind : (x : State) (es : List Event) (n k : ℕ) → IsSound x → IsTrail x es → slice_get es k ≡ Some (Starts n) → has_begun (state_after x es) n ≡ true
begun_behind x [] n k sound trail at = absurd (cc)
begun_behind x (e ∷ es) n zero sound trail at =
    let is : e ≡ Starts n = cc in
    let begun : has_begun (change x e) n ≡ true = subst (λ (f : Event). Needs x f → has_begun (change x f) n ≡ true) (sym is) (λ may. begun_at_start x n sound may) trail.0 in
    (passes_trail (change x e) es (sound-step x e sound trail.0) trail.1).begun n begun
begun_behind x (e ∷ es) n (suc k) sound trail at = begun_behind (change x e) es n k (sound-step x e sound trail.0) trail.1 at

behind : (x : State) (e : Event) (es : List Event) (n j : ℕ) → IsSound x → IsTrail x (e ∷ es) → Some e ≡ Some (Starts n) → slice_get es j ≡ Some (Starts n) → ⊥
behind x e es n j sound trail at there =
    let is : e ≡ Starts n = cc in
    let begun : has_begun (change x e) n ≡ true = subst (λ (f : Event). Needs x f → has_begun (change x f) n ≡ true) (sym is) (λ may. begun_at_start x n sound may) trail.0 in
    no_start_again (change x e) es n j (sound-step x e sound trail.0) trail.1 begun there

-- an entry is started at one position
pub starts_once : (x : State) (es : List Event) (n k j : ℕ) → IsSound x → IsTrail x es → slice_get es k ≡ Some (Starts n) → slice_get es j ≡ Some (Starts n) → k ≡ j
starts_once x [] n k j sound trail at there = absurd (cc)
starts_once x (e ∷ es) n zero zero sound trail at there = refl
starts_once x (e ∷ es) n zero (suc j) sound trail at there = absurd (behind x e es n j sound trail at there)
starts_once x (e ∷ es) n (suc k) zero sound trail at there = absurd (behind x e es n k sound trail there at)
starts_once x (e ∷ es) n (suc k) (suc j) sound trail at there = ap suc (starts_once (change x e) es n k j (sound-step x e sound trail.0) trail.1 at there)
