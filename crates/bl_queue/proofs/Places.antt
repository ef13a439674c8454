-- Lists after a write at a place, and after one more.
use Rattle.std.proofs.Common.{◌≡◌, ◌≢◌, ℕ, zero, suc, ◌+◌, ◌<◌, ◌⊎◌, List, [], ◌∷◌, ◌++◌, length, get_or, set, Contains, inl, inr, refl, sym, subst, ◌∙◌, arith, length-set, get_or-set_same, get_or-set_other}
use Rattle.std.proofs.lemmas.Bool.{cases_eq}
use Rattle.std.proofs.lemmas.List.{length_push, get_or_push, get_or_append_left}

-- what holds of the new element and of each other one holds of each after a write
pub each-set : {X : Type 0} (P : ℕ → X → Type 0) (xs : List X) (k : ℕ) (x d : X) → k < length xs → P k x
    → ((j : ℕ) → j < length xs → j ≢ k → P j (get_or xs j d)) → (j : ℕ) → j < length (set xs k x) → P j (get_or (set xs k x) j d)
each-set {X} P xs k x d lt here others j below =
    let within : j < length xs = subst (λ (n : ℕ). j < n) (length-set xs k x) below in
    elim (cases_eq j k) [
      | inl is ↦
          subst (λ (i : ℕ). P i (get_or (set xs k x) i d)) (sym is)
          (subst (λ (y : X). P k y) (sym (get_or-set_same xs k x d lt)) here)
      | inr ne ↦ subst (λ (y : X). P j y) (sym (get_or-set_other xs k j x d ne)) (others j within ne)
    ]

-- what a write leaves as it was
pub field-set : {X Y : Type 0} (f : X → Y) (xs : List X) (k j : ℕ) (x d : X) → f x ≡ f (get_or xs k d) → f (get_or (set xs k x) j d) ≡ f (get_or xs j d)
field-set f [] k j x d e = refl
field-set f (y ∷ xs) zero zero x d e = e
field-set f (y ∷ xs) zero (suc j) x d e = refl
field-set f (y ∷ xs) (suc k) zero x d e = refl
field-set f (y ∷ xs) (suc k) (suc j) x d e = field-set f xs k j x d e

-- a place of a list that is longer by one
pub push_cases : {X : Type 0} (xs : List X) (x : X) (i : ℕ) → i < length (xs ++ x ∷ []) → (i < length xs) ⊎ (i ≡ length xs)
push_cases xs x i lt =
    let e : length (xs ++ x ∷ []) ≡ length xs + 1 = length_push xs x in
    elim (cases_eq i (length xs)) [ inl is ↦ inr is | inr ne ↦ inl (omega (arith, lt, e, ne)) ]

-- what holds of each element and of the new one holds of each after a push
pub each-push : {X : Type 0} (P : ℕ → X → Type 0) (xs : List X) (x d : X) → ((j : ℕ) → j < length xs → P j (get_or xs j d)) → P (length xs) x
    → (j : ℕ) → j < length (xs ++ x ∷ []) → P j (get_or (xs ++ x ∷ []) j d)
each-push {X} P xs x d before last j lt =
    elim (push_cases xs x j lt) [
      | inl below ↦ subst (λ (y : X). P j y) (sym (get_or_append_left xs (x ∷ []) d j below)) (before j below)
      | inr is ↦
          subst (λ (i : ℕ). P i (get_or (xs ++ x ∷ []) i d)) (sym is)
          (subst (λ (y : X). P (length xs) y) (sym (get_or_push xs x d (length xs) refl)) last)
    ]

pub contains_more : {X : Type 0} (xs : List X) (x y : X) → Contains xs y → Contains (xs ++ x ∷ []) y
contains_more xs x y c =
    let e : length (xs ++ x ∷ []) ≡ length xs + 1 = length_push xs x in
    let lt : c.0 < length xs = c.1 in
    (c.0, omega (arith, lt, e), get_or_append_left xs (x ∷ []) y c.0 lt ∙ c.2)

pub contains_last : {X : Type 0} (xs : List X) (x : X) → Contains (xs ++ x ∷ []) x
contains_last xs x =
    let e : length (xs ++ x ∷ []) ≡ length xs + 1 = length_push xs x in
    (length xs, omega (arith, e), get_or_push xs x x (length xs) refl)
