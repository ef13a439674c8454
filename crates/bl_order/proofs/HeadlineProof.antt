use Rattle.std.proofs.Common.{◌≡◌, ℕ, zero, suc, ◌<◌, ◌≤◌, map, Bool, true, false, cond, ◌||◌, List, [], ◌∷◌, ◌++◌, length, refl, sym, ◌∙◌, ap, subst, inl, inr, arith, ◌⊎◌, true≢false}
use Rattle.std.specs.Prelude.{All, IsTrue, Option, Some, None}
use Rattle.std.proofs.lemmas.List.Elements.{All-from_recursion}
use Rattle.std.specs.List.{AllByRecursion}
use Rattle.bl_level.specs.Level.{SecurityLevel}
use Rattle.bl_policy.specs.Policy.{SecurityPolicy}
use Rattle.bl_policy.specs.Properties.{IsPresent, IsSecure}
use Rattle.bl_policy.specs.declared.access.Access.{Access}
use Rattle.bl_policy.specs.declared.denial.Denial.{Denial}
use Rattle.bl_work.specs.Effects.{Effect}
use Rattle.bl_setup.specs.Setup.{Setup}
use Rattle.bl_order.specs.Order.{Entry, Task, Runs, Applies, accesses_of}
use Rattle.bl_order.specs.Past.{place, policy_before, is_done, fault_of_task, answer_of, may_alter}
use Rattle.bl_order.specs.Machine.{State, Phase, Waiting, Running, Ended, Gone, is_waiting, is_running, is_over, phase_at, is_lost, has_ended, runs, past_at, MayStart, start, Hold, held, held_below}
use Rattle.bl_order.specs.Now.{policy_at, policy_now, IsFirstToAlter}
use Rattle.bl_order.proofs.Sound.{IsSound}
use Rattle.bl_order.specs.Headline.{IsReached, Holds}
use Rattle.bl_order.proofs.AtHandLaws.{closed-sound}
use Rattle.bl_order.proofs.Conflicts.{or_left}
use Rattle.bl_order.proofs.StateLaws.{policy_now-open, content_now-open, content_now-first}
use Rattle.bl_order.proofs.Steps.{waiting_is_not_over, running_is_not_over}
use Rattle.bl_order.proofs.Secure.{secure-all, present-all}
use Rattle.bl_order.proofs.Lawful.{IsLawful, lawful-trail, lawful-start}
use Rattle.bl_order.proofs.Reached.{sound-reached}
use Rattle.bl_order.proofs.Trails.{sound-start, past-begun}

pub done-no_fault : (b : Bool) (f : Option Denial) (t : Task) (es : List Effect) → is_done (answer_of b f t es) ≡ true → f ≡ None
done-no_fault true f t es h = absurd (true≢false (sym h))
done-no_fault false None t es h = refl
done-no_fault false (Some d) t es h = absurd (true≢false (sym h))

secure-task : (p : SecurityPolicy) (s : ℕ) (carried : SecurityLevel) (t : Task) → fault_of_task p s carried t ≡ None → AllByRecursion (λ a. IsSecure p s a.doc a.mode) (accesses_of t)
secure-task p s carried (Runs z i) h = secure-all p s carried (accesses_of (Runs z i)) h
secure-task p s carried (Applies rule) h = tt

-- a place that is answered Done is secure at its place
pub secure-at : (x : State) (n : ℕ) → is_done (past_at x n).answer ≡ true
    → AllByRecursion (λ (a : Access). IsSecure (policy_at x n) (past_at x n).subject a.doc a.mode) (accesses_of (past_at x n).task)
secure-at x n d = (secure-task (policy_at x n) (past_at x n).subject (past_at x n).carried (past_at x n).task (done-no_fault (is_lost x n) _ (past_at x n).task _ d))

present-task : (p : SecurityPolicy) (s : ℕ) (carried : SecurityLevel) (t : Task) → fault_of_task p s carried t ≡ None → AllByRecursion (λ a. IsPresent p a.doc) (accesses_of t)
present-task p s carried (Runs z i) h = present-all p s carried (accesses_of (Runs z i)) h
present-task p s carried (Applies rule) h = tt

-- and each document that it declares is present there
pub present-at : (setup : Setup) (lost : ℕ → Bool) (order : List Entry) (n : ℕ) → is_done (place setup lost order n).answer ≡ true
    → AllByRecursion (λ (a : Access). IsPresent (policy_before setup lost order n) a.doc) (accesses_of (place setup lost order n).task)
present-at setup lost order n d =
    present-task (policy_before setup lost order n) (place setup lost order n).subject (place setup lost order n).carried (place setup lost order n).task
    (done-no_fault (lost n) _ (place setup lost order n).task _ d)

-- the first place that has not ended
all_or_first : (f : ℕ → Bool) (n : ℕ) → ((m : ℕ) → m < n → f m ≡ true) ⊎ ((m : ℕ) × (m < n) × (f m ≡ false) × ((k : ℕ) → k < m → f k ≡ true))
all_or_first f zero = inl (λ m lt. absurd (omega arith))
all_or_first f (suc n) = go (all_or_first f n) (f n) refl
  where
    same_or_less : (m : ℕ) → m < suc n → (m < n) ⊎ (m ≡ n)
    same_or_less m lt = grind arith

    extend : ((m : ℕ) → m < n → f m ≡ true) → f n ≡ true → (m : ℕ) → (m < n) ⊎ (m ≡ n) → f m ≡ true
    extend a e m (inl lt) = a m lt
    extend a e m (inr i) = ap f i ∙ e

    go : ((m : ℕ) → m < n → f m ≡ true) ⊎ ((m : ℕ) × (m < n) × (f m ≡ false) × ((k : ℕ) → k < m → f k ≡ true)) → (b : Bool) → f n ≡ b
        → ((m : ℕ) → m < suc n → f m ≡ true) ⊎ ((m : ℕ) × (m < suc n) × (f m ≡ false) × ((k : ℕ) → k < m → f k ≡ true))
    go (inr t) b e = inr (t.0, omega (arith, t.1), t.2, t.3)
    go (inl a) true e = inl (λ m lt. extend a e m (same_or_less m lt))
    go (inl a) false e = inr (n, omega arith, e, a)

waiting_or_running : (p : Phase) → is_over p ≡ false → (is_running p ≡ true) ⊎ (is_waiting p ≡ true)
waiting_or_running Waiting h = inr refl
waiting_or_running Running h = inl refl
waiting_or_running Ended h = absurd (true≢false h)
waiting_or_running Gone h = absurd (true≢false h)

pub never_stuck : (x : State) (n : ℕ) → n < length x.order → has_ended x n ≡ false → (m : ℕ) × (m ≤ n) × (IsTrue (runs x m) ⊎ MayStart x m)
never_stuck x n lt open_ = go (all_or_first (has_ended x) (suc n))
  where
    found : (m : ℕ) → m < suc n → ((k : ℕ) → k < m → has_ended x k ≡ true) → (is_running (phase_at x m) ≡ true) ⊎ (is_waiting (phase_at x m) ≡ true) → (m : ℕ) × (m ≤ n) × (IsTrue (runs x m) ⊎ MayStart x m)
    found m within all (inl r) = (m, omega arith, inl r)
    found m within all (inr w) = (m, omega arith, inr (record { there = omega arith; waits = w; clear = λ k below c. all k below }))

    go : ((m : ℕ) → m < suc n → has_ended x m ≡ true) ⊎ ((m : ℕ) × (m < suc n) × (has_ended x m ≡ false) × ((k : ℕ) → k < m → has_ended x k ≡ true)) → (m : ℕ) × (m ≤ n) × (IsTrue (runs x m) ⊎ MayStart x m)
    go (inl a) = absurd (true≢false (sym (a n (omega arith)) ∙ open_))
    go (inr t) = found t.0 t.1 t.3 (waiting_or_running (phase_at x t.0) t.2)

-- ---- what is held

all-append : {X : Type 0} (P : X → Type 0) (xs ys : List X) → AllByRecursion P xs → AllByRecursion P ys → AllByRecursion P (xs ++ ys)
all-append P [] ys h k = k
all-append P (x ∷ xs) ys h k = (h.0, all-append P xs ys h.1 k)

all-map : {X Y : Type 0} (P : Y → Type 0) (f : X → Y) (xs : List X) → AllByRecursion (λ x. P (f x)) xs → AllByRecursion P (map f xs)
all-map P f [] h = tt
all-map P f (x ∷ xs) h = (h.0, all-map P f xs h.1)

-- what is said of each access of each running place is said of all that is held
all-held : (P : Hold → Type 0) (x : State) (n : ℕ)
    → ((m : ℕ) → m < n → runs x m ≡ true → AllByRecursion (λ (a : Access). P (record { subject = (past_at x m).subject; doc = a.doc; mode = a.mode })) (accesses_of (past_at x m).task))
    → AllByRecursion P (held_below x n)
all-held P x zero each = tt
all-held P x (suc n) each =
    all-append P (held_below x n) (cond (runs x n) holds []) (all-held P x n (λ m lt. each m (omega arith))) (go (runs x n) refl)
  where
    holds : List Hold
    holds = map (λ (a : Access). record { subject = (past_at x n).subject; doc = a.doc; mode = a.mode }) (accesses_of (past_at x n).task)

    go : (b : Bool) → runs x n ≡ b → AllByRecursion P (cond b holds [])
    go true e = all-map P (λ (a : Access). record { subject = (past_at x n).subject; doc = a.doc; mode = a.mode }) (accesses_of (past_at x n).task) (each n (omega arith) e)
    go false e = tt

-- the accesses that are held are secure, where the policy now is that at each running place
pub secure-held : (x : State) → IsSound x → ((n : ℕ) → n < length x.order → IsTrue (runs x n) → policy_now x ≡ policy_at x n)
    → All (λ (h : Hold). IsSecure (policy_now x) h.subject h.doc h.mode) (held x)
secure-held x sound running =
    All-from_recursion _ _ (all-held (λ h. IsSecure (policy_now x) h.subject h.doc h.mode) x (length x.order)
    (λ n lt r. subst (λ p. AllByRecursion (λ (a : Access). IsSecure p (past_at x n).subject a.doc a.mode) (accesses_of (past_at x n).task)) (sym (running n lt r)) (secure-at x n (sound.allowed n lt r))))

-- and of documents that are present
pub present-held : (x : State) → IsSound x → ((n : ℕ) → n < length x.order → IsTrue (runs x n) → policy_now x ≡ policy_at x n)
    → All (λ (h : Hold). IsPresent (policy_now x) h.doc) (held x)
present-held x sound running =
    All-from_recursion _ _ (all-held (λ h. IsPresent (policy_now x) h.doc) x (length x.order)
    (λ n lt r. subst (λ p. AllByRecursion (λ (a : Access). IsPresent p a.doc) (accesses_of (past_at x n).task)) (sym (running n lt r))
    (present-at x.setup (is_lost x) x.order n (sound.allowed n lt r))))

-- ---- the first place that is still to alter a document

idle_altered : (a e : Bool) → (e || cond a false true) ≡ true → a ≡ true → e ≡ true
idle_altered a true h k = refl
idle_altered true false h k = h
idle_altered false false h k = absurd (true≢false (sym k))

open_altered : (a e : Bool) → (e || cond a false true) ≡ false → (a ≡ true) × (e ≡ false)
open_altered a true h = absurd (true≢false h)
open_altered true false h = (refl, refl)
open_altered false false h = absurd (true≢false h)

module _ (x : State) (doc : ℕ) where
  -- the place has ended, or does not alter the document
  is_idle : ℕ → Bool
  is_idle k = has_ended x k || cond (may_alter (past_at x k).task doc) false true

  pub first-there : (m : ℕ) × IsFirstToAlter x doc m
  unfolding is_idle
  first-there = go (all_or_first is_idle (length x.order))
    where
      go : ((m : ℕ) → m < length x.order → is_idle m ≡ true) ⊎ ((m : ℕ) × (m < length x.order) × (is_idle m ≡ false) × ((k : ℕ) → k < m → is_idle k ≡ true)) → (m : ℕ) × IsFirstToAlter x doc m
      go (inl all) = (
        length x.order,
        record {
          within = omega arith;
          all_before = λ k lt a. idle_altered _ (has_ended x k) (all k lt) a;
          itself = λ lt. absurd (omega (arith, lt));
        },
      )
      go (inr t) = (
        t.0,
        record {
          within = omega (arith, t.1);
          all_before = λ k lt a. idle_altered _ (has_ended x k) (t.3 k lt) a;
          itself = λ lt. open_altered _ (has_ended x t.0) t.2;
        },
      )

-- ---- what holds of a state

pub holds-sound : (x : State) → IsSound x → IsLawful x → Holds x
holds-sound x sound lawful = record {
  at_running = running;
  at_ready = λ n may. policy_now-open x n sound.orderly may.there (waiting_is_not_over (phase_at x n) may.waits) may.clear;
  content_at_ready = λ n o may d. content_now-open x n o sound.orderly may.there (waiting_is_not_over (phase_at x n) may.waits) may.clear d;
  content_at_running = λ n o lt r d. content_now-open x n o sound.orderly lt (running_is_not_over (phase_at x n) r) (λ m below c. sound.orderly m n below lt (or_left (runs x n) (has_ended x n) r) c) d;
  content_at_first = λ o m first. content_now-first x o m sound.orderly first;
  first_there = λ o. first-there x o;
  not_stuck = λ n lt u. never_stuck x n lt u;
  running_stays = λ e needs n lt r other. past-begun x e sound needs n lt (or_left (runs x n) (has_ended x n) r) other;
  closed = closed-sound x sound;
  legal = lawful.legal;
}
  where
    running : (n : ℕ) → n < length x.order → IsTrue (runs x n) → policy_now x ≡ policy_at x n
    running n lt r = policy_now-open x n sound.orderly lt (running_is_not_over (phase_at x n) r) (λ m below c. sound.orderly m n below lt (or_left (runs x n) (has_ended x n) r) c)

pub holds-reached : (x : State) → IsReached x → Holds x
holds-reached x r =
    holds-sound x (sound-reached x r)
    (subst IsLawful (sym r.leads) (lawful-trail (start r.setup r.limit) r.events (sound-start r.setup r.limit) (lawful-start r.setup r.limit) r.trail))
