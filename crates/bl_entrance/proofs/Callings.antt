-- Where the connection with a number stands among others.
use Rattle.std.proofs.Common.{◌≡◌, ℕ, zero, suc, ◌+◌, ◌<◌, ◌≤◌, Bool, true, false, cond, not, nat_eq, List, [], ◌∷◌, ◌++◌, length, get_or, take, drop, set, Option, Some, None, refl, sym, ap, ◌∙◌, arith, add-one, ltb-true, ltb-false}
use Rattle.std.specs.Prelude.{map, nat_lt, position, IfSome}
use Rattle.std.specs.List.{position_or_len, prefix_len, remove, slice_get}
use Rattle.std.proofs.Math.Numerals.{one-add}
use Rattle.std.proofs.lemmas.List.{length-map}
use Rattle.std.proofs.lemmas.List.Folds.{find_at}
use Rattle.bl_entrance.specs.Calling.{Calling, at, place_of, without}
use Rattle.bl_entrance.specs.declared.callers.Caller.{Caller}

-- ---- what `position` says

prefix-map : {X Y : Type 0} (p : Y → Bool) (f : X → Y) (xs : List X) → prefix_len p (map f xs) ≡ prefix_len (λ x. p (f x)) xs
prefix-map p f [] = refl
prefix-map p f (x ∷ xs) = ap (λ n. cond (p (f x)) (1 + n) 0) (prefix-map p f xs)

-- among what elements show
pub position-map : {X Y : Type 0} (p : Y → Bool) (f : X → Y) (xs : List X) → position p (map f xs) ≡ position (λ x. p (f x)) xs
position-map p f xs =
    let same : position_or_len p (map f xs) ≡ position_or_len (λ x. p (f x)) xs = prefix-map (λ y. not (p y)) f xs in
    ap (λ n. cond (nat_lt n (length (map f xs))) (Some n) None) same
    ∙ ap (λ n. cond (nat_lt (position_or_len (λ x. p (f x)) xs) n) (Some (position_or_len (λ x. p (f x)) xs)) None) (length-map xs f)

cond-some : (t : Bool) (n i : ℕ) → cond t (Some n) None ≡ Some i → (t ≡ true) × (n ≡ i)
cond-some true n i is = (refl, cc)
cond-some false n i is = cc

cond-none : (t : Bool) (n : ℕ) → cond t (Some n) None ≡ None → t ≡ false
cond-none true n is = cc
cond-none false n is = refl

pub within-some : {X : Type 0} (p : X → Bool) (xs : List X) (r : Option ℕ) → r ≡ position p xs → IfSome r (λ i. i < length xs)
within-some p xs None is = tt
within-some p xs (Some i) is =
    let at = cond-some (nat_lt (position_or_len p xs) (length xs)) (position_or_len p xs) i (sym is) in
    omega (arith, at.1, ltb-true (position_or_len p xs) (length xs) at.0)

slice-none : {X : Type 0} (xs : List X) (i : ℕ) → length xs ≤ i → slice_get xs i ≡ None
slice-none [] i past = refl
slice-none (x ∷ xs) zero past = absurd (omega arith)
slice-none (x ∷ xs) (suc i) past = slice-none xs i (omega arith)

slice-some : {X : Type 0} (xs : List X) (i : ℕ) (d : X) → i < length xs → slice_get xs i ≡ Some (get_or xs i d)
slice-some [] i d lt = absurd (omega arith)
slice-some (x ∷ xs) zero d lt = refl
slice-some (x ∷ xs) (suc i) d lt = slice-some xs i d (omega arith)

pub map-remove : {X Y : Type 0} (f : X → Y) (xs : List X) (i : ℕ) → map f (remove xs i) ≡ remove (map f xs) i
map-remove f [] zero = refl
map-remove f [] (suc i) = refl
map-remove f (x ∷ xs) zero = refl
map-remove f (x ∷ xs) (suc i) = ap (λ l. f x ∷ l) (map-remove f xs i)

-- ---- the connection with a number

module _ (number : ℕ) where
  abbrev has : Calling → Bool
  has calling = nat_eq calling.number number

  -- it is found where it stands
  pub at-some : (callings : List Calling) (i : ℕ) (d : Calling) → place_of number callings ≡ Some i → at number callings ≡ Some (get_or callings i d)
  at-some callings i d is =
      let place = cond-some (nat_lt (position_or_len has callings) (length callings)) (position_or_len has callings) i is in
      let lt : i < length callings = omega (arith, place.1, ltb-true (position_or_len has callings) (length callings) place.0) in
      find_at has callings ∙ ap (slice_get callings) place.1 ∙ slice-some callings i d lt

  pub at-none : (callings : List Calling) → place_of number callings ≡ None → at number callings ≡ None
  at-none callings is =
      let test = cond-none (nat_lt (position_or_len has callings) (length callings)) (position_or_len has callings) is in
      find_at has callings ∙ slice-none callings (position_or_len has callings) (ltb-false (position_or_len has callings) (length callings) test)

  -- the others, where it is there
  cut : (callings : List Calling) → position_or_len has callings < length callings → without number callings ≡ remove callings (position_or_len has callings)
  cut [] lt = absurd (omega arith)
  cut (calling ∷ callings) lt = go (has calling) refl (cut callings)
    where
      go : (t : Bool) → has calling ≡ t → (position_or_len has callings < length callings → without number callings ≡ remove callings (position_or_len has callings))
          → without number (calling ∷ callings) ≡ remove (calling ∷ callings) (position_or_len has (calling ∷ callings))
      go true is more = rw is refl
      go false is more =
          let less = rw is at lt in
          rw (is, one-add) (ap (λ l. calling ∷ l) (more (omega (arith, less))))

  pub without-some : (callings : List Calling) (i : ℕ) → place_of number callings ≡ Some i → without number callings ≡ remove callings i
  without-some callings i is =
      let place = cond-some (nat_lt (position_or_len has callings) (length callings)) (position_or_len has callings) i is in
      cut callings (ltb-true (position_or_len has callings) (length callings) place.0) ∙ ap (remove callings) place.1

  -- and where it is not
  uncut : (callings : List Calling) → length callings ≤ position_or_len has callings → without number callings ≡ callings
  uncut [] past = refl
  uncut (calling ∷ callings) past = go (has calling) refl (uncut callings)
    where
      go : (t : Bool) → has calling ≡ t → (length callings ≤ position_or_len has callings → without number callings ≡ callings) → without number (calling ∷ callings) ≡ calling ∷ callings
      go true is more = (let none = rw is at past in absurd (omega (arith, none)))
      go false is more = (let less = rw is at past in rw is (ap (λ l. calling ∷ l) (more (omega (arith, less)))))

  pub without-none : (callings : List Calling) → place_of number callings ≡ None → without number callings ≡ callings
  without-none callings is =
      let test = cond-none (nat_lt (position_or_len has callings) (length callings)) (position_or_len has callings) is in
      uncut callings (ltb-false (position_or_len has callings) (length callings) test)

-- ---- connections one by one

module _ (change : Calling → Calling) where
  -- one more is changed
  pub change-more : (old now : List Calling) (i : ℕ) (d : Calling) → i < length old → now ≡ map change (take i old) ++ drop i old
      → set now i (change (get_or old i d)) ≡ map change (take (i + 1) old) ++ drop (i + 1) old
  change-more old now i d lt is = rw add-one (ap (λ l. set l i (change (get_or old i d))) is ∙ go old i lt)
    where
      go : (old : List Calling) (i : ℕ) → i < length old → set (map change (take i old) ++ drop i old) i (change (get_or old i d)) ≡ map change (take (suc i) old) ++ drop (suc i) old
      go [] i lt = absurd (omega arith)
      go (c ∷ old) zero lt = refl
      go (c ∷ old) (suc i) lt = ap (λ l. change c ∷ l) (go old i (omega arith))

  -- the one at that place is still as it was
  pub change-next : (old now : List Calling) (i : ℕ) (d : Calling) → i < length old → now ≡ map change (take i old) ++ drop i old → get_or now i d ≡ get_or old i d
  change-next old now i d lt is = ap (λ l. get_or l i d) is ∙ go old i lt
    where
      go : (old : List Calling) (i : ℕ) → i < length old → get_or (map change (take i old) ++ drop i old) i d ≡ get_or old i d
      go [] i lt = absurd (omega arith)
      go (c ∷ old) zero lt = refl
      go (c ∷ old) (suc i) lt = go old i (omega arith)

  -- at the end all are
  pub change-all : (old now : List Calling) (i : ℕ) → length old ≤ i → now ≡ map change (take i old) ++ drop i old → now ≡ map change old
  change-all old now i le is = is ∙ go old i le
    where
      go : (old : List Calling) (i : ℕ) → length old ≤ i → map change (take i old) ++ drop i old ≡ map change old
      go [] zero le = refl
      go [] (suc i) le = refl
      go (c ∷ old) zero le = absurd (omega arith)
      go (c ∷ old) (suc i) le = ap (λ l. change c ∷ l) (go old i (omega arith))

take-front : (ws ys : List Caller) → take (length ws) (ws ++ ys) ≡ ws
take-front [] ys = refl
take-front (w ∷ ws) ys = ap (λ l. w ∷ l) (take-front ws ys)

-- elements that were written over as many are those elements
pub written : (n : ℕ) (ws olds : List Caller) → length ws ≡ n → take n (ws ++ drop (length ws) olds) ≡ ws
written n ws olds is = ap (λ k. take k (ws ++ drop (length ws) olds)) (sym is) ∙ take-front ws (drop (length ws) olds)
