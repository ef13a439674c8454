-- The first of a list, from the left, for which something does not hold.
use Rattle.std.specs.Prelude.{◌≡◌, ℕ, List, ◌∷◌, ◌++◌, All}

-- the first of these, from the left, for which this does not hold
pub record IsFirstWithout {X : Type 0} (P : X → Type 0) (xs : List X) (x : X) : Type 0 where
  pub before : List X
  pub after : List X
  pub split : xs ≡ before ++ x ∷ after
  pub holds : All P before
  pub fails : P x → ⊥

-- the name that goes with the first of these, from the left, for which this does not hold
pub record IsNameOfFirst {X : Type 0} (P : X → Type 0) (name_of : X → List ℕ) (xs : List X) (name : List ℕ) : Type 0 where
  pub one : X
  pub first : IsFirstWithout P xs one
  pub name_is : name_of one ≡ name
