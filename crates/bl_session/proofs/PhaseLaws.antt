-- Laws of phases, of which one is set or to which more are added.
use Rattle.std.proofs.Common.{◌≡◌, ℕ, zero, suc, ◌+◌, ◌<◌, Bool, true, false, cond, List, [], ◌∷◌, ◌++◌, length, refl, ◌∙◌, ap, arith, length-append, slice_index_or, slice_set, replicate, true≢false, sym}
use Rattle.std.proofs.Math.ListN.{length-set, length-replicate}
use Rattle.bl_order.specs.Machine.{Phase, Waiting, Running, Ended, Gone, is_over, is_running}

pub set_twice : (phases : List Phase) (n : ℕ) (p q : Phase) → slice_set (slice_set phases n p) n q ≡ slice_set phases n q
set_twice [] n p q = refl
set_twice (r ∷ phases) zero p q = refl
set_twice (r ∷ phases) (suc n) p q = ap (λ l. r ∷ l) (set_twice phases n p q)

pub set_behind : (phases : List Phase) (n m : ℕ) (p : Phase) → n < m → slice_index_or (slice_set phases n p) m Waiting ≡ slice_index_or phases m Waiting
set_behind [] n m p lt = refl
set_behind (q ∷ phases) zero zero p lt = absurd (omega arith)
set_behind (q ∷ phases) zero (suc m) p lt = refl
set_behind (q ∷ phases) (suc n) zero p lt = absurd (omega arith)
set_behind (q ∷ phases) (suc n) (suc m) p lt = set_behind phases n m p (omega arith)

pub set_before : (phases : List Phase) (n m : ℕ) (p : Phase) → m < n → slice_index_or (slice_set phases n p) m Waiting ≡ slice_index_or phases m Waiting
set_before [] n m p lt = refl
set_before (q ∷ phases) zero m p lt = absurd (omega arith)
set_before (q ∷ phases) (suc n) zero p lt = refl
set_before (q ∷ phases) (suc n) (suc m) p lt = set_before phases n m p (omega arith)

pub set_here : (phases : List Phase) (n : ℕ) (p : Phase) → n < length phases → slice_index_or (slice_set phases n p) n Waiting ≡ p
set_here [] n p lt = absurd (omega arith)
set_here (q ∷ phases) zero p lt = refl
set_here (q ∷ phases) (suc n) p lt = set_here phases n p (omega arith)

waiting : (n m : ℕ) → slice_index_or (replicate n Waiting) m Waiting ≡ Waiting
waiting zero m = refl
waiting (suc n) zero = refl
waiting (suc n) (suc m) = waiting n m

pub more_waiting : (phases : List Phase) (n m : ℕ) → slice_index_or (phases ++ replicate n Waiting) m Waiting ≡ slice_index_or phases m Waiting
more_waiting [] n m = waiting n m
more_waiting (q ∷ phases) n zero = refl
more_waiting (q ∷ phases) n (suc m) = more_waiting phases n m

pub is_run : (b : Bool) → is_running (cond b Running Ended) ≡ b
is_run true = refl
is_run false = refl

pub runs_on : (p : Phase) → is_running p ≡ true → is_over p ≡ false
runs_on Waiting is = refl
runs_on Running is = refl
runs_on Ended is = absurd (true≢false (sym is))
runs_on Gone is = absurd (true≢false (sym is))

pub long_more : (phases : List Phase) (n : ℕ) (p : Phase) (k : ℕ) → length (slice_set phases n p ++ replicate k Waiting) ≡ length phases + k
long_more phases n p k = length-append (slice_set phases n p) (replicate k Waiting) ∙ ap (λ a. a + length (replicate k Waiting)) (length-set phases n p) ∙ ap (λ a. length phases + a) (length-replicate k Waiting)
