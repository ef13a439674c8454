-- Lines and their parts.
use Rattle.std.proofs.Common.{◌≡◌, ◌≢◌, ℕ, ◌+◌, ◌-◌, ◌<◌, ◌≤◌, Bool, true, false, cond, List, [], ◌∷◌, ◌++◌, length, refl, sym, ap, ◌∙◌, arith, take, take-take, nat_lt, Option, Some, None, OnSome, IfSome, IfNone, subst, zero, position, not, ◌==◌, get_or, get_or-take, length-take, eqb, eq-eqb, eqb-true, ltb-false, add-one, suc, min, ◌||◌, true≢false}
use Rattle.std.proofs.lemmas.Bool.Decides.{nat_tests}
use Rattle.std.proofs.lemmas.List.{take_min}
use Rattle.std.proofs.lemmas.List.Sums.{prefix_len_passes, prefix_len-le-length}
use Rattle.std.specs.List.{prefix_len}
use Rattle.std.proofs.lemmas.List.Quantifiers.{position-Some}
use Rattle.std.proofs.Math.Seq.{take-append-add, take-suc}
use Rattle.std.proofs.lemmas.List.Elements.{All-append}
use Rattle.std.specs.Io.KnownBytes.{Consumes, IsAtEnd}
use Rattle.memchr.specs.Find.{IsFirstByte, is_byte}
use Rattle.bl_wire.specs.Lines.{HasNoLf}
use Rattle.bl_wire.specs.Reads.{IsWholeLine}

pub plain-append : (a b : List ℕ) → HasNoLf a → HasNoLf b → HasNoLf (a ++ b)
plain-append a b one two = All-append (λ y. y ≢ 10) a b one two

-- what is known at first and read is known later
pub known_on : (a b c : Option (List ℕ)) (bs : List ℕ) → Consumes a b bs → OnSome b (IsAtEnd c) → OnSome a (IsAtEnd c)
known_on None b c bs moved e = tt
known_on (Some xs) None c bs moved e = absurd moved
known_on (Some xs) (Some ys) c bs moved e = e

-- the first n of a list, of which the first n are kept
pub take-front : (n : ℕ) (l p : List ℕ) → take n (take n l ++ p) ≡ take n (l ++ p)
take-front zero l p = refl
take-front (suc n) [] p = refl
take-front (suc n) (x ∷ l) p = ap (λ t. x ∷ t) (take-front n l p)

pub over_after : (n k m t : ℕ) → t ≡ min n k → (nat_lt n k || nat_lt n (t + m)) ≡ nat_lt n (k + m)
over_after n k m t e = grind (arith, nat_tests)

pub take-over : (n : ℕ) (a b : List ℕ) → length a ≤ n → take n (a ++ b) ≡ a ++ take (n - length a) b
take-over n a b h =
    let k : n ≡ length a + (n - length a) = omega arith in
    ap (λ m. take m (a ++ b)) k ∙ take-append-add a b (n - length a)

-- up to the first LF there is none
pub before_lf : (xs : List ℕ) (i : ℕ) → position (λ b. b == 10) xs ≡ Some i → HasNoLf (take i xs) × (take (i + 1) xs ≡ take i xs ++ 10 ∷ []) × (i < length xs)
before_lf xs i e =
    let s = position-Some (λ b. b == 10) xs i 0 e in (
      (λ k d h. let below : k < i = omega (arith, length-take i xs) in λ hit. clash k d below hit),
      rw (add-one) (take-suc xs i 0 s.0 ∙ ap (λ x. take i xs ++ x ∷ []) (eqb-true _ _ s.1)),
      s.0,
    )
  where
    clash : (k : ℕ) (d : ℕ) → k < i → get_or (take i xs) k d ≡ 10 → ⊥
    clash k d below hit =
        let s = position-Some (λ b. b == 10) xs i d e in
        let same : get_or xs k d ≡ 10 = sym (get_or-take i xs k d below) ∙ hit in
        let no' : eqb (get_or xs k d) 10 ≡ false = s.2 k below in
        let yes' : eqb (get_or xs k d) 10 ≡ true = eq-eqb (get_or xs k d) 10 same in
        cc

pub no_lf : (xs : List ℕ) → position (λ b. b == 10) xs ≡ None → HasNoLf xs
no_lf xs e k d h hit =
    let all : prefix_len (λ b. not (b == 10)) xs ≡ length xs = stays (prefix_len-le-length (λ b. not (b == 10)) xs) e in
    let passes : not (eqb (get_or xs k d) 10) ≡ true = prefix_len_passes (λ b. not (b == 10)) xs k d (omega arith) in
    let yes' : eqb (get_or xs k d) 10 ≡ true = eq-eqb (get_or xs k d) 10 hit in
    let no' : not (eqb (get_or xs k d) 10) ≡ false = ap not yes' in
    cc
  where
    stays : prefix_len (λ b. not (b == 10)) xs ≤ length xs → position (λ b. b == 10) xs ≡ None → prefix_len (λ b. not (b == 10)) xs ≡ length xs
    stays le none = go (nat_lt (prefix_len (λ b. not (b == 10)) xs) (length xs)) refl none
      where
        go : (t : Bool) → nat_lt (prefix_len (λ b. not (b == 10)) xs) (length xs) ≡ t → cond t (Some (prefix_len (λ b. not (b == 10)) xs)) None ≡ None → prefix_len (λ b. not (b == 10)) xs ≡ length xs
        go true lt none = cc
        go false ge none = omega (arith, le, ltb-false _ _ ge)

-- where no LF stands in what is shown, as far as it may be taken
pub none_whole : (shown : List ℕ) (left most : ℕ) (found : Option ℕ) → most ≡ min left (length shown)
    → found ≡ position (λ b. b == 10) (take most shown) → IfNone found (HasNoLf (take left shown))
none_whole shown left most None least e = subst HasNoLf (ap (λ n. take n shown) least ∙ take_min left shown) (no_lf (take most shown) (sym e))
none_whole shown left most (Some k) least e = tt

-- a search by a vector finds the place that a search from the left finds
pub first_lf : (xs : List ℕ) (r : Option ℕ) → IsFirstByte (is_byte 10) xs r → r ≡ position (λ b. b == 10) xs
first_lf xs r first = go r (position (λ b. b == 10) xs) refl first
  where
    go : (r o : Option ℕ) → position (λ b. b == 10) xs ≡ o → IsFirstByte (is_byte 10) xs r → r ≡ o
    go None None e h = refl
    go None (Some i) e h =
        let at = position-Some (λ b. b == 10) xs i 0 e in
        absurd (h i (omega arith) at.0 at.1)
    go (Some k) None e h = absurd (no_lf xs e k 0 h.0.high (eqb-true _ _ h.1))
    go (Some k) (Some i) e h =
        let at = position-Some (λ b. b == 10) xs i 0 e in
        let not_behind : ¬ (i < k) = λ lt. h.0.before i (omega arith) lt at.1 in
        let not_before : ¬ (k < i) = λ lt. true≢false (sym h.1 ∙ at.2 k lt) in
        ap Some (omega (arith, not_behind, not_before))

-- a line that stands whole at the front of what is shown
pub whole_at : (shown : List ℕ) (left most : ℕ) (r : Option ℕ) → most ≤ length shown → most ≤ left → r ≡ position (λ b. b == 10) (take most shown) → IfSome r (λ at. IsWholeLine at shown left)
whole_at shown left most None within fits is = tt
whole_at shown left most (Some at) within fits is =
    let b = before_lf (take most shown) at (sym is) in
    let low : at + 1 ≤ most = omega (arith, length-take most shown, b.2) in
    let front : take at shown ≡ take at (take most shown) = sym (take-take at most shown (omega arith)) in
    record {
      plain = subst HasNoLf (sym front) b.0;
      front = sym (take-take (at + 1) most shown low) ∙ b.1 ∙ ap (λ l. l ++ 10 ∷ []) (sym front);
      within = omega arith;
      fits = omega arith;
    }
