-- Where all has ended nothing runs.
use Rattle.std.proofs.Common.{◌≡◌, ℕ, zero, suc, ◌+◌, ◌<◌, List, [], ◌∷◌, ◌++◌, length, get_or, sym, true≢false, ◌∙◌, ap, arith}
use Rattle.std.specs.Prelude.{IsTrue}
use Rattle.bl_order.specs.Machine.{State, Phase, Waiting, Running, Ended, Gone, is_over, is_running, phase_at, runs}
use Rattle.bl_order.specs.Standing.{HaveAllEnded, tabled}

not-both : (p : Phase) → IsTrue (is_running p) → IsTrue (is_over p) → ⊥
not-both Waiting r o = absurd (true≢false (sym r))
not-both Running r o = absurd (true≢false (sym o))
not-both Ended r o = absurd (true≢false (sym r))
not-both Gone r o = absurd (true≢false (sym r))

there : (phases : List Phase) (n : ℕ) → IsTrue (is_running (get_or phases n Waiting)) → n < length phases
there [] n r = absurd (true≢false (sym r))
there (p ∷ phases) zero r = omega arith
there (p ∷ phases) (suc n) r = let lt : n < length phases = there phases n r in omega (arith, lt)

pub nothing-runs : (x : State) (n : ℕ) → length x.phases ≡ length x.order → HaveAllEnded x → IsTrue (runs x n) → ⊥
nothing-runs x n same all r =
    let lt : n < length x.phases = there x.phases n r in
    not-both (phase_at x n) r (all n (omega (arith, lt, same)))

-- ---- tables

tabled-suc : {A : Type 0} (k n : ℕ) (f : ℕ → A) → tabled k (suc n) f ≡ tabled k n f ++ f (k + n) ∷ []
tabled-suc k zero f = ap (λ j. f j ∷ []) (plus-zero k)
  where
    plus-zero : (j : ℕ) → j ≡ j + 0
    plus-zero j = omega arith
tabled-suc k (suc n) f =
    ap (λ l. f k ∷ l) (tabled-suc (suc k) n f ∙ ap (λ j. tabled (suc k) n f ++ f j ∷ []) (moved k n))
  where
    moved : (j m : ℕ) → suc j + m ≡ j + suc m
    moved j m = omega arith

-- one value more
pub tabled-more : {A : Type 0} (n : ℕ) (f : ℕ → A) → tabled 0 (n + 1) f ≡ tabled 0 n f ++ f n ∷ []
tabled-more n f = ap (λ j. tabled 0 j f) (one-more n) ∙ tabled-suc 0 n f ∙ ap (λ j. tabled 0 n f ++ f j ∷ []) (zero-plus n)
  where
    one-more : (j : ℕ) → j + 1 ≡ suc j
    one-more j = omega arith

    zero-plus : (j : ℕ) → 0 + j ≡ j
    zero-plus j = omega arith
