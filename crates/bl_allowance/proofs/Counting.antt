-- The ends of lines in bytes, and the longest front of whole lines.
use Rattle.std.proofs.Common.{◌≡◌, ◌≢◌, ◌==◌, ◌<◌, ◌≤◌, ◌+◌, ◌∙◌, ◌||◌, ◌⊎◌, Bool, true, false, cond, ℕ, List, [], ◌∷◌, ◌++◌, length, take, drop, min, nat_lt, get_or, inl, inr, refl, sym, ap, subst, arith, length-append, take-append-drop}
use Rattle.std.proofs.Math.Seq.{take-append-add, take-length}
use Rattle.std.proofs.lemmas.Bool.{cases_eq, lt-ltb, ltb-false, ltb-true, ne_eqb}
use Rattle.std.proofs.lemmas.List.{length-take-le, take_more, take-append-le}
use Rattle.std.proofs.lemmas.List.Sums.{sum_by-append, sum_by-cons, sum_by-take-drop, sum_by_push}
use Rattle.std.specs.List.{list_any}
use Rattle.bl_allowance.specs.Lines.{AreWhole, EndsLine, lines_in}

-- 1 for the end of a line
abbrev end_in : ℕ → ℕ
end_in b = cond (b == 10) 1 0

one_more : (t found : Bool) (n : ℕ) → found ≡ nat_lt 0 n → (t || found) ≡ nat_lt 0 (cond t 1 0 + n)
one_more true found n is = sym (lt-ltb 0 (1 + n) (omega arith))
one_more false found n is = let zero' : 0 + n ≡ n = omega arith in is ∙ ap (λ k. nat_lt 0 k) (sym zero')

-- a search for an LF finds one where a line ends
pub any_ends : (bytes : List ℕ) → list_any (λ b. b == 10) bytes ≡ nat_lt 0 (lines_in bytes)
any_ends [] = refl
any_ends (b ∷ bytes) = one_more (b == 10) (list_any (λ c. c == 10) bytes) (lines_in bytes) (any_ends bytes)
    ∙ ap (λ k. nat_lt 0 k) (sym (sum_by-cons end_in b bytes))

-- where none ends none is counted
pub none_counted : (bytes : List ℕ) (t : Bool) → t ≡ nat_lt 0 (lines_in bytes) → t ≡ false → lines_in bytes ≡ 0
none_counted bytes t is none = omega (arith, ltb-false 0 (lines_in bytes) (sym is ∙ none))

pub some_counted : (bytes : List ℕ) (t : Bool) → t ≡ nat_lt 0 (lines_in bytes) → t ≡ true → 0 < lines_in bytes
some_counted bytes t is some = ltb-true 0 (lines_in bytes) (sym is ∙ some)

pub lines-append : (front rest : List ℕ) → lines_in (front ++ rest) ≡ lines_in front + lines_in rest
lines-append front rest = sum_by-append end_in front rest

-- what has no end of a line has none behind a front of it
pub none_behind : (n : ℕ) (bytes : List ℕ) → lines_in bytes ≡ 0 → lines_in (drop n bytes) ≡ 0
none_behind n bytes none = omega (arith, sum_by-take-drop end_in bytes n, none)

-- ---- the longest front of whole lines, of bytes that come one by one

pub whole_start : (most : ℕ) → AreWhole [] most 0 0
whole_start most = record { within = omega arith; ends = inl refl; counted = refl; longest = omega arith }

whole_end : (front : List ℕ) (most count lines : ℕ) → lines < most → AreWhole front most count lines
    → AreWhole (front ++ 10 ∷ []) most (length front + 1) (lines + 1)
whole_end front most count lines less whole =
    let all : take (length front + 1) (front ++ 10 ∷ []) ≡ front ++ 10 ∷ [] = take-append-add front (10 ∷ []) 1 in
    let push : lines_in (front ++ 10 ∷ []) ≡ lines_in front + 1 = sum_by_push end_in front 10 in
    let so : lines ≡ lines_in front = omega (arith, whole.longest, less) in
    record {
      within = omega (arith, length-append front (10 ∷ []));
      ends = inr (front, all);
      counted = ap (λ n. n + 1) so ∙ sym push ∙ ap lines_in (sym all);
      longest = omega (arith, so, push, less);
    }

whole_other : (front : List ℕ) (b most count lines : ℕ) → b ≢ 10 → AreWhole front most count lines
    → AreWhole (front ++ b ∷ []) most count lines
whole_other front b most count lines other whole =
    let same : take count (front ++ b ∷ []) ≡ take count front = take-append-le count front (b ∷ []) whole.within in
    let none : end_in b ≡ 0 = ap (λ t. cond t 1 0) (ne_eqb b 10 other) in
    let push : lines_in (front ++ b ∷ []) ≡ lines_in front + end_in b = sum_by_push end_in front b in
    record {
      within = omega (arith, length-append front (b ∷ []), whole.within);
      ends = subst (λ l. (count ≡ 0) ⊎ EndsLine l) (sym same) whole.ends;
      counted = whole.counted ∙ ap lines_in (sym same);
      longest = omega (arith, whole.longest, push, none);
    }

-- the next byte is the end of a line
pub whole_next : (bytes : List ℕ) (at most count lines : ℕ) → at < length bytes → get_or bytes at 0 ≡ 10 → lines < most
    → AreWhole (take at bytes) most count lines → AreWhole (take (at + 1) bytes) most (at + 1) (lines + 1)
whole_next bytes at most count lines here is less whole =
    let more : take (at + 1) bytes ≡ take at bytes ++ 10 ∷ [] = take_more bytes at 0 here ∙ ap (λ b. take at bytes ++ b ∷ []) is in
    let long : length (take at bytes) ≡ at = length-take-le at bytes (omega (arith, here)) in
    subst (λ l. AreWhole l most (at + 1) (lines + 1)) (sym more)
    (subst (λ n. AreWhole (take at bytes ++ 10 ∷ []) most (n + 1) (lines + 1)) long (whole_end (take at bytes) most count lines less whole))

-- it is another byte
pub whole_on : (bytes : List ℕ) (at most count lines : ℕ) → at < length bytes → get_or bytes at 0 ≢ 10
    → AreWhole (take at bytes) most count lines → AreWhole (take (at + 1) bytes) most count lines
whole_on bytes at most count lines here other whole =
    subst (λ l. AreWhole l most count lines) (sym (take_more bytes at 0 here)) (whole_other (take at bytes) (get_or bytes at 0) most count lines other whole)

-- there are as many as are wanted
pub whole_full : (bytes : List ℕ) (at most count lines : ℕ) → most ≤ lines → AreWhole (take at bytes) most count lines
    → AreWhole bytes most count lines
whole_full bytes at most count lines full whole =
    let is : take at bytes ++ drop at bytes ≡ bytes = take-append-drop at bytes in
    let more : lines_in (take at bytes ++ drop at bytes) ≡ lines_in (take at bytes) + lines_in (drop at bytes) = lines-append (take at bytes) (drop at bytes) in
    let same : take count (take at bytes ++ drop at bytes) ≡ take count (take at bytes) = take-append-le count (take at bytes) (drop at bytes) whole.within in
    let on : AreWhole (take at bytes ++ drop at bytes) most count lines = record {
      within = omega (arith, length-append (take at bytes) (drop at bytes), whole.within);
      ends = subst (λ l. (count ≡ 0) ⊎ EndsLine l) (sym same) whole.ends;
      counted = whole.counted ∙ ap lines_in (sym same);
      longest = omega (arith, whole.longest, more, full);
    } in
    subst (λ l. AreWhole l most count lines) is on

-- all of them were looked at
pub whole_all : (bytes : List ℕ) (at most count lines : ℕ) → at ≡ length bytes → AreWhole (take at bytes) most count lines
    → AreWhole bytes most count lines
whole_all bytes at most count lines all whole =
    subst (λ l. AreWhole l most count lines) (ap (λ n. take n bytes) all ∙ take-length bytes) whole

-- ---- what follows from it

-- where there are lines their last byte is an LF
pub whole_ends : (bytes : List ℕ) (most count lines : ℕ) → 0 < lines → AreWhole bytes most count lines → EndsLine (take count bytes)
whole_ends bytes most count lines some whole =
    elim whole.ends [
      | inl none ↦ let zero' : lines ≡ 0 = whole.counted ∙ ap (λ n. lines_in (take n bytes)) none in absurd (omega (arith, some, zero'))
      | inr ends ↦ ends
    ]

cases_zero : (n : ℕ) → (n ≡ 0) ⊎ (0 < n)
cases_zero n = elim (cases_eq n 0) [ inl none ↦ inl none | inr some ↦ inr (omega (arith, some)) ]

pub whole_some : (bytes : List ℕ) (most count lines : ℕ) → 0 < lines → AreWhole bytes most count lines → 0 < count
whole_some bytes most count lines some whole =
    elim (cases_zero count) [
      | inl none ↦ let zero' : lines ≡ 0 = whole.counted ∙ ap (λ n. lines_in (take n bytes)) none in absurd (omega (arith, some, zero'))
      | inr more ↦ more
    ]

-- a front has no more lines than all
pub front_fewer : (n : ℕ) (bytes : List ℕ) → lines_in (take n bytes) ≤ lines_in bytes
front_fewer n bytes = omega (arith, sum_by-take-drop end_in bytes n)
