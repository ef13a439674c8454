-- How many numbers below a bound pass a test.
use Rattle.std.proofs.Common.{◌≡◌, ◌≢◌, ℕ, zero, suc, ◌+◌, ◌<◌, ◌≤◌, Bool, true, false, if◌then◌else◌, inl, inr, refl, subst, sym, arith}
use Rattle.std.proofs.lemmas.Bool.{cases_eq, cases_lt, cases_Bool}
use Rattle.bl_queue.specs.Holders.{count_below}

pub same_bool : (a b : Bool) → (a ≡ true → b ≡ true) → (b ≡ true → a ≡ true) → a ≡ b
same_bool true b to from = sym (to refl)
same_bool false true to from = from refl
same_bool false false to from = refl

pub count-same : (f g : ℕ → Bool) (n : ℕ) → ((p : ℕ) → p < n → f p ≡ g p) → count_below f n ≡ count_below g n
count-same f g zero same = refl
count-same f g (suc n) same =
    let rest : count_below f n ≡ count_below g n = count-same f g n (λ p lt. same p (omega (arith, lt))) in
    let e : f n ≡ g n = same n (omega arith) in
    rw (e, rest)

-- one test more passes
pub count-more : (f g : ℕ → Bool) (n h : ℕ) → h < n → f h ≡ true → g h ≡ false → ((p : ℕ) → p < n → p ≢ h → f p ≡ g p)
    → count_below f n ≡ count_below g n + 1
count-more f g zero h lt ft gf same = absurd (omega (arith, lt))
count-more f g (suc n) h lt ft gf same =
    elim (cases_eq h n) [
      | inl is ↦
          let f_n : f n ≡ true = subst (λ (i : ℕ). f i ≡ true) is ft in
          let g_n : g n ≡ false = subst (λ (i : ℕ). g i ≡ false) is gf in
          let rest : count_below f n ≡ count_below g n = count-same f g n (λ p below. same p (omega (arith, below)) (λ e. omega (arith, e, is, below))) in
          rw (f_n, g_n, rest) (omega arith)
      | inr ne ↦
          let rest : count_below f n ≡ count_below g n + 1 = count-more f g n h (omega (arith, lt, ne)) ft gf (λ p below. same p (omega (arith, below))) in
          let e : f n ≡ g n = same n (omega arith) (λ e'. ne (sym e')) in
          rw (e, rest) (omega arith)
    ]

pub count-some : (f : ℕ → Bool) (n p : ℕ) → p < n → f p ≡ true → 0 < count_below f n
count-some f zero p lt t = absurd (omega (arith, lt))
count-some f (suc n) p lt t =
    elim (cases_eq p n) [
      | inl is ↦ let f_n : f n ≡ true = subst (λ (i : ℕ). f i ≡ true) is t in rw f_n (omega arith)
      | inr ne ↦ let rest : 0 < count_below f n = count-some f n p (omega (arith, lt, ne)) t in omega (arith, rest)
    ]

pub count-two : (f : ℕ → Bool) (n p q : ℕ) → p < q → q < n → f p ≡ true → f q ≡ true → 1 < count_below f n
count-two f zero p q lt below fp fq = absurd (omega (arith, below))
count-two f (suc n) p q lt below fp fq =
    elim (cases_eq q n) [
      | inl is ↦
          let f_n : f n ≡ true = subst (λ (i : ℕ). f i ≡ true) is fq in
          let rest : 0 < count_below f n = count-some f n p (omega (arith, lt, is)) fp in
          rw f_n (omega (arith, rest))
      | inr ne ↦ let rest : 1 < count_below f n = count-two f n p q lt (omega (arith, below, ne)) fp fq in omega (arith, rest)
    ]

pub count-none : (f : ℕ → Bool) (n : ℕ) → ((p : ℕ) → p < n → f p ≡ false) → count_below f n ≡ 0
count-none f zero all = refl
count-none f (suc n) all =
    let rest : count_below f n ≡ 0 = count-none f n (λ p lt. all p (omega (arith, lt))) in
    let e : f n ≡ false = all n (omega arith) in
    rw (e, rest)

pub counted : (f : ℕ → Bool) (n : ℕ) → 0 < count_below f n → (p : ℕ) × (p < n) × (f p ≡ true)
counted f zero lt = absurd (omega (arith, lt))
counted f (suc n) lt =
    elim (cases_Bool (f n)) [
      | inl t ↦ (n, omega arith, t)
      | inr e ↦
          let rest : 0 < count_below f n = elim (cases_lt 0 (count_below f n)) [
            | inl some ↦ some
            | inr none ↦ let le : (if f n then 1 else 0) + count_below f n ≤ 0 = rw e (omega (arith, none)) in absurd (omega (arith, lt, le))
          ] in
          let w = counted f n rest in
          (w.0, (let below : w.0 < n = w.1 in omega (arith, below)), w.2)
    ]

pub count-le : (f : ℕ → Bool) (n : ℕ) → count_below f n ≤ n
count-le f zero = omega arith
count-le f (suc n) =
    let rest : count_below f n ≤ n = count-le f n in
    elim (cases_Bool (f n)) [
      | inl t ↦ rw t (omega (arith, rest))
      | inr e ↦ rw e (omega (arith, rest))
    ]

-- one number more, of which the test is false, or true
pub count-push_not : (f g : ℕ → Bool) (n m : ℕ) → m ≡ n + 1 → f n ≡ false → ((p : ℕ) → p < n → f p ≡ g p) → count_below f m ≡ count_below g n
count-push_not f g n m e fails same =
    let rest : count_below f n ≡ count_below g n = count-same f g n same in
    let after : m ≡ suc n = omega (arith, e) in
    rw (after, fails, rest) (omega arith)

pub count-push : (f g : ℕ → Bool) (n m : ℕ) → m ≡ n + 1 → f n ≡ true → ((p : ℕ) → p < n → f p ≡ g p) → count_below f m ≡ count_below g n + 1
count-push f g n m e passes same =
    let rest : count_below f n ≡ count_below g n = count-same f g n same in
    let after : m ≡ suc n = omega (arith, e) in
    rw (after, passes, rest) (omega arith)

-- where the test fails once, fewer pass than there are
pub count-lt : (f : ℕ → Bool) (n p : ℕ) → p < n → f p ≡ false → count_below f n < n
count-lt f zero p lt fails = absurd (omega (arith, lt))
count-lt f (suc n) p lt fails =
    elim (cases_eq p n) [
      | inl is ↦
          let f_n : f n ≡ false = subst (λ (i : ℕ). f i ≡ false) is fails in
          let rest : count_below f n ≤ n = count-le f n in
          rw f_n (omega (arith, rest))
      | inr ne ↦
          let rest : count_below f n < n = count-lt f n p (omega (arith, lt, ne)) fails in
          elim (cases_Bool (f n)) [
            | inl t ↦ rw t (omega (arith, rest))
            | inr e ↦ rw e (omega (arith, rest))
          ]
    ]
