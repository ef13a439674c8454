-- The members of one word.
use Rattle.std.proofs.Common.{Some, not, ◌==◌, eq-eqb, eqb-true, ◌≡◌, ◌≢◌, ℕ, ◌+◌, ◌-◌, ◌*◌, ◌/◌, ◌%◌, ◌<◌, ◌≤◌, ◌^◌, min, List, length, get_or, set, bit_and, bit_or, inl, inr, sym, subst, ap, ◌∙◌, arith, length-set, get_or-set_same, get_or-set_other}
use Rattle.std.specs.Prelude.{MatchBool}
use Rattle.std.specs.Int.{bit_at, trailing_zeros, w64}
use Rattle.std.proofs.lemmas.Bool.{cases_eq, cases_lt, false_from_ne_true}
use Rattle.std.proofs.lemmas.Nat.{and_le_r}
use Rattle.std.proofs.lemmas.Nat.Bits.{bit_at-zero, bit_at-lt, bit_at_and, bit_at-trailing_zeros, bit_at_set_same, bit_at_set_other, bit_at_clear_same, bit_at_clear_other, ones_shl, bit_at_mask_inside, bit_at_mask_below}
use Rattle.std.proofs.lemmas.List.{get_or_past}
use Rattle.bl_queue.specs.Numbers.{mark, IsMarked, IsUnmarked, IsWordEmpty, IsWordLeft, IsFirstInWord}

pub mark-lt : (words : List ℕ) (n : ℕ) → mark words n < 2
unfolding mark
mark-lt words n = bit_at-lt (get_or words (n / 64) 0) (n % 64)

-- a number of a word, by its bit
pub mark-at : (words : List ℕ) (k i : ℕ) → i < 64 → mark words (k * 64 + i) ≡ bit_at (get_or words k 0) i
unfolding mark
mark-at words k i lt =
    let q : (k * 64 + i) / 64 ≡ k = omega (arith, lt) in
    let r : (k * 64 + i) % 64 ≡ i = omega (arith, lt) in
    ap (λ j. bit_at (get_or words j 0) ((k * 64 + i) % 64)) q ∙ ap (λ j. bit_at (get_or words k 0) j) r

-- a number of the same word as another
pub mark-near : (words : List ℕ) (m k : ℕ) → m / 64 ≡ k → mark words m ≡ bit_at (get_or words k 0) (m % 64)
unfolding mark
mark-near words m k e = ap (λ j. bit_at (get_or words j 0) (m % 64)) e

-- there are no members beyond the words
pub mark-beyond : (words : List ℕ) (n : ℕ) → length words ≤ n / 64 → mark words n ≡ 0
unfolding mark
mark-beyond words n le = ap (λ w. bit_at w (n % 64)) (get_or_past words (n / 64) 0 le) ∙ bit_at-zero (n % 64)

pub mark-within : (words : List ℕ) (n : ℕ) → mark words n ≡ 1 → n / 64 < length words
mark-within words n e =
    elim (cases_lt (n / 64) (length words)) [
      | inl lt ↦ lt
      | inr le ↦ absurd (omega (arith, e, mark-beyond words n le))
    ]

-- ---- a word is written

mark-written : (words : List ℕ) (n w : ℕ) → n / 64 < length words → mark (set words (n / 64) w) n ≡ bit_at w (n % 64)
unfolding mark
mark-written words n w lt = ap (λ v. bit_at v (n % 64)) (get_or-set_same words (n / 64) w 0 lt)

-- the other numbers stay as they were where the other bits do
others_stay : (words : List ℕ) (n w m : ℕ) → n / 64 < length words
    → ((i : ℕ) → i < 64 → i ≢ n % 64 → bit_at w i ≡ bit_at (get_or words (n / 64) 0) i)
    → m ≢ n → mark (set words (n / 64) w) m ≡ mark words m
unfolding mark
others_stay words n w m lt same ne =
    elim (cases_eq (m / 64) (n / 64)) [
      | inl e ↦
          ap (λ j. bit_at (get_or (set words (n / 64) w) j 0) (m % 64)) e
          ∙ ap (λ v. bit_at v (m % 64)) (get_or-set_same words (n / 64) w 0 lt)
          ∙ same (m % 64) (omega arith) (λ r. ne (omega (arith, e, r)))
          ∙ ap (λ j. bit_at (get_or words j 0) (m % 64)) (sym e)
      | inr differ ↦ ap (λ v. bit_at v (m % 64)) (get_or-set_other words (n / 64) (m / 64) w 0 differ)
    ]

-- the bit of the number is set
pub marked : (words : List ℕ) (n : ℕ) → n / 64 < length words
    → IsMarked words n (set words (n / 64) (bit_or (get_or words (n / 64) 0) (1 * 2 ^ (n % 64) % 18446744073709551616)))
marked words n lt = record {
  size = length-set words (n / 64) _;
  there = mark-written words n _ lt ∙ bit_at_set_same w64 (get_or words (n / 64) 0) (n % 64) (omega arith);
  others = λ m ne. others_stay words n _ m lt (λ i below other. bit_at_set_other w64 (get_or words (n / 64) 0) (n % 64) (omega arith) i other) ne;
}

-- the bit of the number is cleared
pub unmarked : (words : List ℕ) (n : ℕ) → n / 64 < length words
    → IsUnmarked words n (set words (n / 64) (bit_and (get_or words (n / 64) 0) (18446744073709551615 - 1 * 2 ^ (n % 64) % 18446744073709551616)))
unmarked words n lt = record {
  size = length-set words (n / 64) _;
  gone = mark-written words n _ lt ∙ bit_at_clear_same w64 (get_or words (n / 64) 0) (n % 64) (omega arith);
  others = λ m ne. others_stay words n _ m lt (λ i below other. bit_at_clear_other w64 (get_or words (n / 64) 0) (n % 64) (omega arith) i below other) ne;
}

-- a word that is 0 has no member
pub word_empty : (words : List ℕ) (n w : ℕ) → n / 64 < length words → w ≡ 0 → IsWordEmpty (set words (n / 64) w) n
word_empty words n w lt e m near =
    mark-near (set words (n / 64) w) m (n / 64) near
    ∙ ap (λ v. bit_at v (m % 64)) (get_or-set_same words (n / 64) w 0 lt ∙ e)
    ∙ bit_at-zero (m % 64)

-- each other word has one
pub word_left : (words : List ℕ) (n w : ℕ) → n / 64 < length words → 0 < w → w < 18446744073709551616 → IsWordLeft (set words (n / 64) w) n
word_left words n w lt some fits =
    let z = bit_at-trailing_zeros w64 w some fits in
    let below : trailing_zeros w64 w < 64 = z.0 in
    let member : mark (set words (n / 64) w) (n / 64 * 64 + trailing_zeros w64 w) ≡ 1 =
    mark-at (set words (n / 64) w) (n / 64) (trailing_zeros w64 w) below
    ∙ ap (λ v. bit_at v (trailing_zeros w64 w)) (get_or-set_same words (n / 64) w 0 lt)
    ∙ z.1 in
    (n / 64 * 64 + trailing_zeros w64 w, omega (arith, below), member)

-- a word that is 0 has no member, and each other one has
pub word_tells : (words : List ℕ) (n w : ℕ) → n / 64 < length words → w < 18446744073709551616
    → MatchBool (not (w == 0)) (IsWordLeft (set words (n / 64) w) n) (IsWordEmpty (set words (n / 64) w) n)
word_tells words n w lt fits =
    elim (cases_eq w 0) [
      | inl is ↦
          subst (λ b. MatchBool (not b) (IsWordLeft (set words (n / 64) w) n) (IsWordEmpty (set words (n / 64) w) n)) (sym (eq-eqb w 0 is))
          (word_empty words n w lt is)
      | inr some ↦
          subst (λ b. MatchBool (not b) (IsWordLeft (set words (n / 64) w) n) (IsWordEmpty (set words (n / 64) w) n)) (sym (false_from_ne_true (w == 0) (λ t. some (eqb-true w 0 t))))
          (word_left words n w lt (omega (arith, some)) fits)
    ]

-- ---- the first member of a word

-- the bits from this one on
abbrev from_bit : ℕ → ℕ → ℕ
from_bit w k = bit_and w (18446744073709551615 * 2 ^ k % 18446744073709551616)

bit-from : (w k i : ℕ) → k < 64 → k ≤ i → i < 64 → bit_at (from_bit w k) i ≡ bit_at w i
bit-from w k i lt le below =
    let mask : bit_at (18446744073709551615 * 2 ^ k % 18446744073709551616) i ≡ 1 =
    ap (λ v. bit_at v i) (ones_shl 64 k (omega (arith, lt))) ∙ bit_at_mask_inside k 64 i le below in
    let both : bit_at (from_bit w k) i ≡ min (bit_at w i) (bit_at (18446744073709551615 * 2 ^ k % 18446744073709551616) i) = bit_at_and w _ i in
    let small : bit_at w i < 2 = bit_at-lt w i in
    omega (arith, mask, both, small)

bit-before : (w k i : ℕ) → k < 64 → i < k → bit_at (from_bit w k) i ≡ 0
bit-before w k i lt less =
    let mask : bit_at (18446744073709551615 * 2 ^ k % 18446744073709551616) i ≡ 0 =
    ap (λ v. bit_at v i) (ones_shl 64 k (omega (arith, lt))) ∙ bit_at_mask_below k 64 i less in
    let both : bit_at (from_bit w k) i ≡ min (bit_at w i) (bit_at (18446744073709551615 * 2 ^ k % 18446744073709551616) i) = bit_at_and w _ i in
    omega (arith, mask, both)

pub none_in_word : (words : List ℕ) (from : ℕ) → from_bit (get_or words (from / 64) 0) (from % 64) ≡ 0
    → (m : ℕ) → from ≤ m → m / 64 ≡ from / 64 → mark words m ≡ 0
none_in_word words from e m le near =
    mark-near words m (from / 64) near
    ∙ sym (bit-from (get_or words (from / 64) 0) (from % 64) (m % 64) (omega arith) (omega (arith, le, near)) (omega arith))
    ∙ ap (λ v. bit_at v (m % 64)) e
    ∙ bit_at-zero (m % 64)

pub first_found : (words : List ℕ) (from : ℕ) → 0 < from_bit (get_or words (from / 64) 0) (from % 64)
    → IsFirstInWord words from (Some (from / 64 * 64 + trailing_zeros w64 (from_bit (get_or words (from / 64) 0) (from % 64))))
first_found words from some =
    let word : ℕ = get_or words (from / 64) 0 in
    let rest : ℕ = from_bit word (from % 64) in
    let less : rest ≤ 18446744073709551615 * 2 ^ (from % 64) % 18446744073709551616 = and_le_r word _ in
    let z = bit_at-trailing_zeros w64 rest some (omega (arith, less)) in
    let below : trailing_zeros w64 rest < 64 = z.0 in
    let set_there : bit_at rest (trailing_zeros w64 rest) ≡ 1 = z.1 in
    let behind : from % 64 ≤ trailing_zeros w64 rest =
    elim (cases_lt (trailing_zeros w64 rest) (from % 64)) [
      | inl before ↦ absurd (omega (arith, set_there, bit-before word (from % 64) (trailing_zeros w64 rest) (omega arith) before))
      | inr le ↦ le
    ] in (
      record {
        behind = omega (arith, behind);
        there = mark-at words (from / 64) (trailing_zeros w64 rest) below
            ∙ sym (bit-from word (from % 64) (trailing_zeros w64 rest) (omega arith) behind below)
            ∙ set_there;
        least = λ m le lt.
            let near : m / 64 ≡ from / 64 = omega (arith, le, lt, below) in
            mark-near words m (from / 64) near
            ∙ sym (bit-from word (from % 64) (m % 64) (omega arith) (omega (arith, le, near)) (omega arith))
            ∙ z.2 (m % 64) (omega (arith, near, lt));
      },
      omega (arith, below),
    )
