-- The names so far, of which the nearest was found.
use Rattle.std.proofs.Common.{◌≡◌, ◌<◌, ◌≤◌, ℕ, zero, suc, ◌+◌, min, refl, sym, ◌∙◌, ap, subst, arith, List, [], ◌∷◌, length, get_or, Option, Some, None, ◌⊎◌, inl, inr}
use Rattle.std.specs.Prelude.{slice_get, unwrap_or, MatchOption}
use Rattle.bl_nearest.specs.Nearest.{distance, IsNear, IsNearest, NoneIsNear}

-- at this distance from the word a name is far
abbrev pub far : List ℕ → ℕ
far word = min (length word) 3

-- this name was found among the first k
pub record IsFound (names : List (List ℕ)) (word : List ℕ) (k least : ℕ) (name : List ℕ) : Type 0 where
  pub place : ℕ
  pub behind : place < k
  pub at : slice_get names place ≡ Some name
  pub is : least ≡ distance word name
  pub near : least < far word
  pub first : (j : ℕ) (other : List ℕ) → j < place → slice_get names j ≡ Some other → least < distance word other

abbrev pub Found : List (List ℕ) → List ℕ → ℕ → ℕ → Option (List ℕ) → Type 0
Found names word k least None = least ≡ far word
Found names word k least (Some name) = IsFound names word k least name

-- of the first k names none is nearer than what was found
pub record Looked (names : List (List ℕ)) (word : List ℕ) (k least : ℕ) (found : Option (List ℕ)) : Type 0 where
  pub least_is : (j : ℕ) (other : List ℕ) → j < k → slice_get names j ≡ Some other → least ≤ distance word other
  pub found_is : Found names word k least found

some_is : {X : Type 0} (x y : X) → Some x ≡ Some y → x ≡ y
some_is x y e = ap (λ o. unwrap_or o x) e

pub looked_none : (names : List (List ℕ)) (word : List ℕ) → Looked names word 0 (far word) None
looked_none names word = record { least_is = λ j other h at. absurd (omega (arith, h)); found_is = refl }

below_more : (j k : ℕ) → j < k + 1 → (j < k) ⊎ (j ≡ k)
below_more j k h = grind arith

found_more : (names : List (List ℕ)) (word : List ℕ) (k least : ℕ) (found : Option (List ℕ)) → Found names word k least found → Found names word (k + 1) least found
found_more names word k least None f = f
found_more names word k least (Some name) f = record {
  place = f.place;
  behind = omega (arith, f.behind);
  at = f.at;
  is = f.is;
  near = f.near;
  first = f.first;
}

module _ (names : List (List ℕ)) (word : List ℕ) (k least : ℕ) (found : Option (List ℕ)) (name : List ℕ) (at : slice_get names k ≡ Some name)
    (looked : Looked names word k least found) where
  least_more : (least' : ℕ) → least' ≤ least → least' ≤ distance word name → (j : ℕ) (other : List ℕ) → j < k + 1 → slice_get names j ≡ Some other → least' ≤ distance word other
  least_more least' low here j other h is = go (below_more j k h)
    where
      go : ((j < k) ⊎ (j ≡ k)) → least' ≤ distance word other
      go (inl before) = omega (arith, low, looked.least_is j other before is)
      go (inr same) =
          let e : Some name ≡ Some other = sym at ∙ ap (slice_get names) (sym same) ∙ is in
          subst (λ n. least' ≤ distance word n) (some_is name other e) here

  -- the next name is not nearer
  pub looked_far : least ≤ distance word name → Looked names word (k + 1) least found
  looked_far h = record { least_is = least_more least (omega arith) h; found_is = found_more names word k least found looked.found_is }

  below_far : (f : Option (List ℕ)) → Found names word k least f → least ≤ far word
  below_far None f = omega (arith, f)
  below_far (Some n) f = omega (arith, f.near)

  -- the next name is nearer
  pub looked_near : (edits : ℕ) → edits ≡ distance word name → edits < least → Looked names word (k + 1) edits (Some name)
  looked_near edits e h = record {
    least_is = least_more edits (omega (arith, h)) (omega (arith, e));
    found_is = record {
      place = k;
      behind = omega arith;
      at = at;
      is = e;
      near = omega (arith, h, below_far found looked.found_is);
      first = λ j other before is. omega (arith, h, looked.least_is j other before is);
    };
  }

place_within : (names : List (List ℕ)) (j : ℕ) (other : List ℕ) → slice_get names j ≡ Some other → j < length names
place_within [] j other e = absurd (cc)
place_within (n ∷ names) zero other e = omega arith
place_within (n ∷ names) (suc j) other e = omega (arith, place_within names j other e)

pub get_is : (names : List (List ℕ)) (j : ℕ) (d : List ℕ) → j < length names → slice_get names j ≡ Some (get_or names j d)
get_is [] j d h = absurd (omega (arith, h))
get_is (n ∷ names) zero d h = refl
get_is (n ∷ names) (suc j) d h = get_is names j d (omega (arith, h))

far_is : (word : List ℕ) (d : ℕ) → d < far word → (d ≤ 2) × (d < length word)
far_is word d h = grind arith

is_far : (word : List ℕ) (d : ℕ) → d ≤ 2 → d < length word → d < far word
is_far word d a b = grind arith

-- what was found among all of them
pub looked_all : (names : List (List ℕ)) (word : List ℕ) (k least : ℕ) (found : Option (List ℕ)) → length names ≤ k → Looked names word k least found
    → MatchOption found (NoneIsNear names word) (IsNearest names word)
looked_all names word k least None all looked = λ j other at near.
    let h = looked.least_is j other (omega (arith, all, place_within names j other at)) at in
    let f = is_far word (distance word other) near.0 near.1 in
    absurd (omega (arith, h, f, looked.found_is))
looked_all names word k least (Some name) all looked =
    let f = looked.found_is in
    record {
      place = f.place;
      at = f.at;
      near = far_is word (distance word name) (omega (arith, f.is, f.near));
      least = λ j other at. omega (arith, f.is, looked.least_is j other (omega (arith, all, place_within names j other at)) at);
      first = λ j other before at. omega (arith, f.is, f.first j other before at);
    }
