-- The marks stay right from line to line.
use Rattle.std.proofs.Common.{◌≡◌, ◌≢◌, ℕ, zero, suc, ◌<◌, Bool, true, false, cond, List, [], ◌∷◌, ◌++◌, length, replicate, set, get_or, refl, sym, ◌∙◌, ap, subst, inl, inr, arith, ◌⊎◌, true≢false, get_or-set_same, get_or-set_other}
use Rattle.std.specs.Prelude.{◌==◌, IsTrue, Some, None}
use Rattle.std.proofs.lemmas.Bool.Decides.{nat_tests}
use Rattle.bl_order.specs.Past.{is_done}
use Rattle.bl_order.specs.Machine.{State, Event, Opens, Admits, Starts, Ends, Loses, Phase, Waiting, Running, Ended, Gone, is_waiting, is_running, is_over, is_gone, phase_at, past_at, is_lost, runs, MayStart, Needs, change, children_at, with_phase}
use Rattle.bl_replay.specs.Marks.{Finding, ending_of, first_end, Foretells, AreForetold}

-- what the marks say of places that ended
pub foretold : (x : State) (marks : ℕ → Bool) (found : List Finding) → Foretells x marks found → AreForetold marks x
foretold x marks found tells k over = sym (tells k ∙ ap (λ b. cond b (is_lost x k) (first_end found k)) over)

-- a mark, by the phase of its place
abbrev marked : Phase → Bool → Bool
marked p next = cond (is_over p) (is_gone p) next

grown : (ps : List Phase) (n k : ℕ) → get_or (ps ++ replicate k Waiting) n Waiting ≡ get_or ps n Waiting
grown [] n zero = refl
grown [] zero (suc k) = refl
grown [] (suc n) (suc k) = grown [] n k
grown (p ∷ ps) zero k = refl
grown (p ∷ ps) (suc n) k = grown ps n k

same_or_other : (k n : ℕ) → (k ≡ n) ⊎ (k ≢ n)
same_or_other k n = grind arith

itself : (n : ℕ) → (n == n) ≡ true
itself n = grind (arith, nat_tests)

other : (k n : ℕ) → k ≢ n → (n == k) ≡ false
other k n h = grind (arith, nat_tests)

running_within : (ps : List Phase) (n : ℕ) → is_running (get_or ps n Waiting) ≡ true → n < length ps
running_within [] n h = absurd (true≢false (sym h))
running_within (p ∷ ps) zero h = omega arith
running_within (p ∷ ps) (suc n) h = let lt : n < length ps = running_within ps n h in omega arith

unended-running : (p : Phase) → is_running p ≡ true → is_over p ≡ false
unended-running Waiting h = refl
unended-running Running h = refl
unended-running Ended h = absurd (true≢false (sym h))
unended-running Gone h = absurd (true≢false (sym h))

unended-waiting : (p : Phase) → is_waiting p ≡ true → is_over p ≡ false
unended-waiting Waiting h = refl
unended-waiting Running h = refl
unended-waiting Ended h = absurd (true≢false (sym h))
unended-waiting Gone h = absurd (true≢false (sym h))

-- one place moves to a phase, which is what the line found
module _ (x : State) (marks : ℕ → Bool) (f : Finding) (found : List Finding) (tells : Foretells x marks (f ∷ found)) (n : ℕ) (within : n < length x.phases) (unended : is_over (phase_at x n) ≡ false) (p : Phase)
    (here : first_end (f ∷ found) n ≡ marked p (first_end found n)) (elsewhere : (k : ℕ) → k ≢ n → first_end (f ∷ found) k ≡ first_end found k) where
  moved : (y : State) → ((k : ℕ) → phase_at y k ≡ get_or (set x.phases n p) k Waiting) → Foretells y marks found
  moved y phases k = tells k ∙ go (same_or_other k n) ∙ sym (ap (λ q. marked q (first_end found k)) (phases k))
    where
      go : (k ≡ n) ⊎ (k ≢ n) → marked (phase_at x k) (first_end (f ∷ found) k) ≡ marked (get_or (set x.phases n p) k Waiting) (first_end found k)
      go (inl same) =
          subst (λ j. marked (phase_at x j) (first_end (f ∷ found) j) ≡ marked (get_or (set x.phases n p) j Waiting) (first_end found j)) (sym same)
          (ap (λ b. cond b (is_gone (phase_at x n)) (first_end (f ∷ found) n)) unended ∙ here ∙ ap (λ q. marked q (first_end found n)) (sym (get_or-set_same x.phases n p Waiting within)))
      go (inr not) =
          ap (marked (phase_at x k)) (elsewhere k not)
          ∙ ap (λ q. marked q (first_end found k)) (sym (get_or-set_other x.phases n k p Waiting not))

-- THE MARKS: they stay right
module _ (x : State) (as_many : length x.phases ≡ length x.order) (marks : ℕ → Bool) (found : List Finding) where
  ended_here : (n : ℕ) (b : Bool) → first_end (Some (n, b) ∷ found) n ≡ b
  ended_here n b = ap (λ c. cond c b (first_end found n)) (itself n)

  ended_elsewhere : (n k : ℕ) (b : Bool) → k ≢ n → first_end (Some (n, b) ∷ found) k ≡ first_end found k
  ended_elsewhere n k b not = ap (λ c. cond c b (first_end found k)) (other k n not)

  at_start : (n : ℕ) → MayStart x n → (b : Bool) → Foretells x marks (cond b None (Some (n, false)) ∷ found)
      → Foretells (with_phase x n (cond b Running Ended)) marks found
  at_start n may true tells = moved x marks None found tells n (omega (arith, may.there, as_many)) (unended-waiting (phase_at x n) may.waits) Running refl (λ k not. refl) (with_phase x n Running) (λ k. refl)
  at_start n may false tells = moved x marks (Some (n, false)) found tells n (omega (arith, may.there, as_many)) (unended-waiting (phase_at x n) may.waits) Ended (ended_here n false) (λ k not. ended_elsewhere n k false not) (with_phase x n Ended) (λ k. refl)

  lost_within : (n : ℕ) → IsTrue (runs x n) ⊎ MayStart x n → (n < length x.phases) × (is_over (phase_at x n) ≡ false)
  lost_within n (inl r) = (running_within x.phases n r, unended-running (phase_at x n) r)
  lost_within n (inr may) = (omega (arith, may.there, as_many), unended-waiting (phase_at x n) may.waits)

  pub foretells-on : (e : Event) → Needs x e → Foretells x marks (ending_of x e ∷ found) → Foretells (change x e) marks found
  foretells-on (Opens s) step tells = tells
  foretells-on (Admits i k w) step tells = λ j. tells j ∙ sym (ap (λ q. marked q (first_end found j)) (grown x.phases j 1))
  foretells-on (Starts n) step tells = at_start n step (is_done (past_at x n).answer) tells
  foretells-on (Ends n) step tells =
      moved x marks (Some (n, false)) found tells n (running_within x.phases n step) (unended-running (phase_at x n) step) Ended (ended_here n false) (λ k not. ended_elsewhere n k false not) (change x (Ends n))
      (λ k. grown (set x.phases n Ended) k (length (children_at x n)))
  foretells-on (Loses n) step tells =
      let t : (n < length x.phases) × (is_over (phase_at x n) ≡ false) = lost_within n step in
      moved x marks (Some (n, true)) found tells n t.0 t.1 Gone (ended_here n true) (λ k not. ended_elsewhere n k true not) (with_phase x n Gone) (λ k. refl)

  -- a place that is lost later does not end at its start
  pub runs-first : (n : ℕ) → MayStart x n → Foretells x marks (ending_of x (Starts n) ∷ found) → marks n ≡ true → is_done (past_at x n).answer ≡ true
  runs-first n may tells later = go (is_done (past_at x n).answer) refl
    where
      go : (b : Bool) → is_done (past_at x n).answer ≡ b → is_done (past_at x n).answer ≡ true
      go true h = h
      go false h =
          absurd (true≢false (sym later ∙ tells n
          ∙ ap (λ b. cond b (is_lost x n) (first_end (ending_of x (Starts n) ∷ found) n)) (unended-waiting (phase_at x n) may.waits)
          ∙ ap (λ b. first_end (cond b None (Some (n, false)) ∷ found) n) h
          ∙ ended_here n false))

  -- a place that is lost later does not end with its answer
  pub ends-first : (n : ℕ) → IsTrue (runs x n) → Foretells x marks (ending_of x (Ends n) ∷ found) → marks n ≡ false
  ends-first n r tells =
      tells n ∙ ap (λ b. cond b (is_lost x n) (first_end (ending_of x (Ends n) ∷ found) n)) (unended-running (phase_at x n) r) ∙ ended_here n false
