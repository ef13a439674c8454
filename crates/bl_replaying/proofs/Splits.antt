-- A text has one last line end.
use Rattle.std.proofs.Common.{◌≡◌, ◌≢◌, ◌⊎◌, ℕ, zero, suc, ◌+◌, ◌-◌, ◌<◌, ◌≤◌, List, [], ◌∷◌, ◌++◌, length, get_or, take, drop, refl, sym, ap, ◌∙◌, inl, inr, arith, length-append, length-drop, take-append-drop, get_or-drop, get_or-append-add, le_antisymm}
use Rattle.std.proofs.Math.Seq.{take-suc}
use Rattle.std.proofs.lemmas.List.Elements.{All-from_get_or, All-get_or}
use Rattle.bl_replaying.specs.Open.{IsSplit}

-- no byte behind the lines is an LF
no-end : (text lines torn : List ℕ) → IsSplit text lines torn → (k : ℕ) → length lines ≤ k → k < length text → get_or text k 0 ≢ 10
no-end text lines torn is k from within lf =
    let n = k - length lines in
    let at : k ≡ length lines + n = omega arith in
    let short : n < length torn = omega (arith, ap length is.text_is, length-append lines torn) in
    let here : get_or text k 0 ≡ get_or torn n 0 = ap (λ l. get_or l k 0) is.text_is ∙ ap (λ j. get_or (lines ++ torn) j 0) at ∙ get_or-append-add lines torn n 0 in
    All-get_or (λ byte. byte ≢ 10) torn n 0 short is.within (sym here ∙ lf)

append-mid : (front torn : List ℕ) → (front ++ 10 ∷ []) ++ torn ≡ front ++ 10 ∷ torn
append-mid [] torn = refl
append-mid (b ∷ front) torn = ap (λ l. b ∷ l) (append-mid front torn)

-- the last byte of the lines is one
last-end : (text lines torn : List ℕ) → IsSplit text lines torn → 0 < length lines → get_or text (length lines - 1) 0 ≡ 10
last-end text lines torn is some = go is.ends
  where
    go : (lines ≡ []) ⊎ ((front : List ℕ) × (lines ≡ front ++ 10 ∷ [])) → get_or text (length lines - 1) 0 ≡ 10
    go (inl none) = absurd (omega (arith, ap length none))
    go (inr (front, ends)) =
        let long = ap length ends in
        let whole : text ≡ (front ++ 10 ∷ []) ++ torn = is.text_is ∙ ap (λ l. l ++ torn) ends in
        let place : length lines - 1 ≡ length front + 0 = omega (arith, long, length-append front (10 ∷ [])) in
        ap (λ k. get_or text k 0) place ∙ ap (λ l. get_or l (length front + 0) 0) (whole ∙ append-mid front torn) ∙ get_or-append-add front (10 ∷ torn) 0 0

-- so no split has longer lines than another
no-longer : (text lines torn others rest : List ℕ) → IsSplit text lines torn → IsSplit text others rest → length others ≤ length lines
no-longer text lines torn others rest is other = go (length others - length lines) refl
  where
    go : (more : ℕ) → length others - length lines ≡ more → length others ≤ length lines
    go zero less = omega arith
    go (suc n) more =
        let long = ap length other.text_is in
        absurd (no-end text lines torn is (length others - 1) (omega arith) (omega (arith, long, length-append others rest)) (last-end text others rest other (omega arith)))

front-of : (lines torn : List ℕ) → take (length lines) (lines ++ torn) ≡ lines
front-of [] torn = refl
front-of (b ∷ lines) torn = ap (λ l. b ∷ l) (front-of lines torn)

-- the lines of both are the same
pub same-lines : (text lines torn others rest : List ℕ) → IsSplit text lines torn → IsSplit text others rest → others ≡ lines
same-lines text lines torn others rest is other =
    let long : length others ≡ length lines = le_antisymm (no-longer text lines torn others rest is other) (no-longer text others rest lines torn other is) in
    sym (front-of others rest) ∙ ap (take (length others)) (sym other.text_is) ∙ ap (λ n. take n text) long ∙ ap (take (length lines)) is.text_is ∙ front-of lines torn

ending : (text : List ℕ) (n : ℕ) → n ≤ length text → (0 < n → get_or text (n - 1) 0 ≡ 10) → (take n text ≡ []) ⊎ ((front : List ℕ) × (take n text ≡ front ++ 10 ∷ []))
ending text zero within last = inl refl
ending text (suc n) within last =
    let place : suc n - 1 ≡ n = omega arith in
    let lf : get_or text n 0 ≡ 10 = ap (λ k. get_or text k 0) (sym place) ∙ last (omega arith) in
    inr (take n text, take-suc text n 0 (omega arith) ∙ ap (λ b. take n text ++ b ∷ []) lf)

-- a text is split where the last LF stands, or at its start where there is none
pub splits : (text : List ℕ) (end : ℕ) → end ≤ length text → ((k : ℕ) → end ≤ k → k < length text → get_or text k 0 ≢ 10) → (0 < end → get_or text (end - 1) 0 ≡ 10)
    → IsSplit text (take end text) (drop end text)
splits text end within none last = record {
  text_is = sym (take-append-drop end text);
  ends = ending text end within last;
  within = All-from_get_or (λ byte. byte ≢ 10) (drop end text) 0 (λ k lt lf. none (end + k) (omega arith) (omega (arith, lt, length-drop end text)) (sym (get_or-drop end text k 0) ∙ lf));
}

-- nor from one place before
pub none_more : (text : List ℕ) (end : ℕ) → ((k : ℕ) → end ≤ k → k < length text → get_or text k 0 ≢ 10) → get_or text (end - 1) 0 ≢ 10
    → (k : ℕ) → end - 1 ≤ k → k < length text → get_or text k 0 ≢ 10
none_more text end none other k from within lf = go (k - (end - 1)) refl
  where
    go : (more : ℕ) → k - (end - 1) ≡ more → ⊥
    go zero is =
        let at : k ≡ end - 1 = omega arith in
        other (ap (λ j. get_or text j 0) (sym at) ∙ lf)
    go (suc n) is = none k (omega arith) within lf
