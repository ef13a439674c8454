-- How a file is cut at its first LF, and a CR at the end of a line.
use Rattle.std.proofs.Common.{◌≡◌, ◌≢◌, ℕ, zero, suc, ◌<◌, true, false, eqb, List, [], ◌∷◌, length, get_or, take, drop, refl, ap, arith}
use Rattle.std.proofs.lemmas.Bool.Decides.{nat_tests}
use Rattle.bl_setup.specs.Lines.{onto, lines_of, without_cr}

not_lf : (b : ℕ) → b ≢ 10 → eqb b 10 ≡ false
not_lf b ne = grind (arith, nat_tests)

is_lf : (b : ℕ) → b ≡ 10 → eqb b 10 ≡ true
is_lf b e = grind (arith, nat_tests)

-- the first LF stands at i
pub lines_at : (bytes : List ℕ) (i : ℕ) → i < length bytes → get_or bytes i 0 ≡ 10 → ((k : ℕ) → k < i → get_or bytes k 0 ≢ 10)
    → lines_of bytes ≡ take i bytes ∷ lines_of (drop (suc i) bytes)
lines_at [] i within lf none = absurd (omega arith)
lines_at (b ∷ bytes) zero within lf none = rw (is_lf b lf) refl
lines_at (b ∷ bytes) (suc i) within lf none =
    let rest = lines_at bytes i (omega arith) lf (λ k h. none (suc k) (omega arith)) in
    let ne : b ≢ 10 = none 0 (omega arith) in
    rw (not_lf b ne) (rw rest refl)

lines_none : (b : ℕ) (bytes : List ℕ) → ((k : ℕ) → k < length (b ∷ bytes) → get_or (b ∷ bytes) k 0 ≢ 10) → lines_of (b ∷ bytes) ≡ (b ∷ bytes) ∷ []
lines_none b [] none = rw (not_lf b (none 0 (omega arith))) refl
lines_none b (c ∷ bytes) none =
    let rest = lines_none c bytes (λ k h. none (suc k) (omega arith)) in
    rw (not_lf b (none 0 (omega arith))) (ap (onto b) rest)

-- there is no LF
pub lines_whole : (bytes : List ℕ) → 0 < length bytes → ((k : ℕ) → k < length bytes → get_or bytes k 0 ≢ 10) → lines_of bytes ≡ bytes ∷ []
lines_whole [] some none = absurd (omega arith)
lines_whole (b ∷ bytes) some none = lines_none b bytes none

is_cr : (b : ℕ) → b ≡ 13 → eqb b 13 ≡ true
is_cr b e = grind (arith, nat_tests)

not_cr : (b : ℕ) → b ≢ 13 → eqb b 13 ≡ false
not_cr b ne = grind (arith, nat_tests)

-- a CR at the end goes
pub cr_goes : (line : List ℕ) (n : ℕ) → length line ≡ suc n → get_or line n 0 ≡ 13 → take n line ≡ without_cr line
cr_goes [] n e is = absurd (omega arith)
cr_goes (b ∷ []) zero e is = rw (is_cr b is) refl
cr_goes (b ∷ c ∷ line) zero e is = absurd (omega arith)
cr_goes (b ∷ []) (suc n) e is = absurd (omega arith)
cr_goes (b ∷ c ∷ line) (suc n) e is = ap (λ x. b ∷ x) (cr_goes (c ∷ line) n (omega arith) is)

-- another byte at the end stays
pub other_stays : (line : List ℕ) (n : ℕ) → length line ≡ suc n → get_or line n 0 ≢ 13 → line ≡ without_cr line
other_stays [] n e ne = refl
other_stays (b ∷ []) zero e ne = rw (not_cr b ne) refl
other_stays (b ∷ c ∷ line) zero e ne = absurd (omega arith)
other_stays (b ∷ []) (suc n) e ne = absurd (omega arith)
other_stays (b ∷ c ∷ line) (suc n) e ne = ap (λ x. b ∷ x) (other_stays (c ∷ line) n (omega arith) ne)
