-- Rows of bits, each over the one below it.
use Rattle.std.proofs.Common.{Vec, ◌≡◌, ◌≢◌, ℕ, ◌+◌, ◌*◌, ◌/◌, ◌%◌, ◌<◌, ◌≤◌, Option, Some, None, List, [], ◌∷◌, ◌++◌, take, drop, refl, length, replicate, inl, inr, sym, subst, ap, ◌∙◌, arith}
use Rattle.std.proofs.lemmas.Bool.{cases_eq, cases_lt}
use Rattle.std.proofs.lemmas.List.{get_or-replicate, get_or_past, length-replicate}
use Rattle.std.proofs.lemmas.Nat.Bits.{bit_at-zero}
use Rattle.std.specs.Int.{bit_at}
use Rattle.std.specs.Vec.{with_items}
use Rattle.bl_queue.specs.Numbers.{mark, IsOver, IsMarked, IsUnmarked, IsWordEmpty, IsWordLeft, IsFirst, IsFirstInWord}
use Rattle.bl_queue.proofs.Words.{mark-lt, mark-beyond, mark-within}

-- a number is a member or not
member_or_not : (words : List ℕ) (n : ℕ) → (mark words n ≡ 1 → ⊥) → mark words n ≡ 0
member_or_not words n never =
    elim (cases_eq (mark words n) 1) [
      | inl is ↦ absurd (never is)
      | inr not ↦ omega (arith, not, mark-lt words n)
    ]

-- a slice that is written back is what a Vec has then
pub written_items : {Z : Type 0} (v : Vec ℕ Z) (words : List ℕ) → length words ≡ length v.items → (with_items v words).items ≡ words
written_items v words e =
    ap (λ (k : ℕ). take k (words ++ drop (length words) v.items)) len ∙ take_front words (drop (length words) v.items)
  where
    len : v.len ≡ length words
    len = omega (arith, v.ok.0, e)

    take_front : (xs ys : List ℕ) → take (length xs) (xs ++ ys) ≡ xs
    take_front [] ys = refl
    take_front (x ∷ xs) ys = ap (λ l. x ∷ l) (take_front xs ys)

-- ---- a row stays over the other

-- the rows are written back
pub over_written : {Z : Type 0} (v w : Vec ℕ Z) (below above : List ℕ) → length below ≡ length v.items → length above ≡ length w.items
    → IsOver below above → IsOver (with_items v below).items (with_items w above).items
over_written v w below above low high over =
    subst (λ (l : List ℕ). IsOver l (with_items w above).items) (sym (written_items v below low))
    (subst (λ (l : List ℕ). IsOver below l) (sym (written_items w above high)) over)

pub over_kept : {Z : Type 0} (v : Vec ℕ Z) (below above : List ℕ) → length below ≡ length v.items → IsOver below above → IsOver (with_items v below).items above
over_kept v below above low over = subst (λ (l : List ℕ). IsOver l above) (sym (written_items v below low)) over

pub over_marked : (below above below' above' : List ℕ) (n : ℕ) → IsOver below above → IsMarked below n below' → IsMarked above (n / 64) above' → IsOver below' above'
over_marked below above below' above' n over low high = record {
  up = λ m e.
      elim (cases_eq (m / 64) (n / 64)) [
        | inl same ↦ ap (mark above') same ∙ high.there
        | inr differ ↦ high.others (m / 64) differ ∙ over.up m (sym (low.others m (λ is. differ (ap (λ j. j / 64) is))) ∙ e)
      ];
  down = λ k e.
      elim (cases_eq k (n / 64)) [
        | inl is ↦ (n, sym is, low.there)
        | inr differ ↦
            let d = over.down k (sym (high.others k differ) ∙ e) in
            (d.0, d.1, low.others d.0 (λ is. differ (sym d.1 ∙ ap (λ j. j / 64) is)) ∙ d.2)
      ];
  room = omega (arith, over.room, low.size, high.size);
}

pub over_left : (below above below' : List ℕ) (n : ℕ) → IsOver below above → IsUnmarked below n below' → IsWordLeft below' n → IsOver below' above
over_left below above below' n over low left = record {
  up = λ m e. over.up m (sym (low.others m (λ is. absurd (omega (arith, sym e ∙ ap (mark below') is ∙ low.gone)))) ∙ e);
  down = λ k e.
      let d = over.down k e in
      elim (cases_eq d.0 n) [
        | inl is ↦ (left.0, left.1 ∙ ap (λ j. j / 64) (sym is) ∙ d.1, left.2)
        | inr differ ↦ (d.0, d.1, low.others d.0 differ ∙ d.2)
      ];
  room = omega (arith, over.room, low.size);
}

pub over_emptied : (below above below' above' : List ℕ) (n : ℕ) → IsOver below above → IsUnmarked below n below' → IsWordEmpty below' n → IsUnmarked above (n / 64) above'
    → IsOver below' above'
over_emptied below above below' above' n over low empty high = record {
  up = λ m e.
      let differ : m / 64 ≢ n / 64 = λ near. absurd (omega (arith, sym e ∙ empty m near)) in
      high.others (m / 64) differ ∙ over.up m (sym (low.others m (λ is. differ (ap (λ j. j / 64) is))) ∙ e);
  down = λ k e.
      let differ : k ≢ n / 64 = λ is. absurd (omega (arith, sym e ∙ ap (mark above') is ∙ high.gone)) in
      let d = over.down k (sym (high.others k differ) ∙ e) in
      (d.0, d.1, low.others d.0 (λ is. differ (sym d.1 ∙ ap (λ j. j / 64) is)) ∙ d.2);
  room = omega (arith, over.room, low.size, high.size);
}

-- ---- rows without a member

mark-empty : (count n : ℕ) → mark (replicate count 0) n ≡ 0
unfolding mark
mark-empty count n =
    elim (cases_lt (n / 64) count) [
      | inl lt ↦ ap (λ w. bit_at w (n % 64)) (get_or-replicate count (n / 64) 0 0 lt) ∙ bit_at-zero (n % 64)
      | inr le ↦ ap (λ w. bit_at w (n % 64)) (get_or_past (replicate count 0) (n / 64) 0 (omega (arith, le, length-replicate {A = ℕ} count 0))) ∙ bit_at-zero (n % 64)
    ]

pub none_marked : (words : List ℕ) (count n : ℕ) → words ≡ replicate count 0 → mark words n ≡ 0
none_marked words count n e = ap (λ w. mark w n) e ∙ mark-empty count n

pub over_empty : (below above : List ℕ) (few more : ℕ) → below ≡ replicate few 0 → above ≡ replicate more 0 → few ≤ 64 * more → IsOver below above
over_empty below above few more low high le = record {
  up = λ n e. absurd (omega (arith, e, none_marked below few n low));
  down = λ k e. absurd (omega (arith, e, none_marked above more k high));
  room = omega (arith, le, ap length low ∙ length-replicate few 0, ap length high ∙ length-replicate more 0);
}

-- ---- the first member

-- among the numbers of one word there are all
pub first_of_one : (words : List ℕ) (from : ℕ) (o : Option ℕ) → length words ≡ 1 → IsFirstInWord words from o → IsFirst words from o
first_of_one words from None one first = λ m le.
    elim (cases_eq (m / 64) (from / 64)) [
      | inl near ↦ first m le near
      | inr far ↦ mark-beyond words m (omega (arith, one, le, far))
    ]
first_of_one words from (Some n) one first = first.0

-- where the word of a number has none and no later word has one, there is none
pub none_over : (below above : List ℕ) (from : ℕ) → IsOver below above → IsFirstInWord below from None → IsFirst above (from / 64 + 1) None → IsFirst below from None
none_over below above from over here later m le =
    member_or_not below m
    (λ is. elim (cases_eq (m / 64) (from / 64)) [
      | inl near ↦ omega (arith, is, here m le near)
      | inr far ↦ omega (arith, over.up m is, later (m / 64) (omega (arith, le, far)))
    ])

-- otherwise it is the first of the first later word that has one
pub first_over : (below above : List ℕ) (from k : ℕ) (o : Option ℕ) → IsOver below above → IsFirstInWord below from None → IsFirst above (from / 64 + 1) (Some k)
    → IsFirstInWord below (k * 64) o → IsFirst below from o
first_over below above from k None over here later none =
    let d = over.down k later.there in
    absurd (omega (arith, d.2, none d.0 (omega (arith, d.1)) (d.1 ∙ sym (start k))))
  where
    start : (j : ℕ) → j * 64 / 64 ≡ j
    start j = omega arith
first_over below above from k (Some n) over here later first =
    let behind : k * 64 ≤ n = first.0.behind in
    let far : from / 64 + 1 ≤ k = later.behind in
    record {
      behind = omega (arith, behind, far);
      there = first.0.there;
      least = λ m le lt.
          member_or_not below m
          (λ is. elim (cases_lt (m / 64) k) [
            | inl before ↦ elim (cases_eq (m / 64) (from / 64)) [
              | inl near ↦ omega (arith, is, here m le near)
              | inr other ↦ omega (arith, over.up m is, later.least (m / 64) (omega (arith, le, other)) before)
            ]
            | inr from_k ↦ omega (arith, is, first.0.least m (omega (arith, from_k)) lt)
          ]);
    }

-- the numbers of a row under one word, and of one under that, are few
pub few_words : (below above : List ℕ) (k : ℕ) → IsOver below above → length above ≡ 1 → mark below k ≡ 1 → k < 4096
few_words below above k over one is = omega (arith, over.room, one, mark-within below k is)
